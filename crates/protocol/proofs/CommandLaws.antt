-- Laws of the command words. Assumes nothing.
use mathlib.Core.Path.{◌≡◌, refl}
use mathlib.Core.List.{List, [], ◌∷◌}
use Prim.Native.Nat.{ℕ, ◌<◌, ◌^◌}
use lib.Dec.{eqb, lit<}
use borrow.Author.Tests.{eqb-true, ne_eqb}
use Rattle.le.specs.Le.{num_of}
use Rattle.le.proofs.Parts.{by-test}
use Rattle.protocol.specs.declared.command.Command.{Command}
use Rattle.protocol.specs.declared.command.Command.TheVariants.{Sync, Connect, Open, Ready, Close, Write, Auth, StartTls}
use Rattle.protocol.specs.Command.{letters_of, word_of, magic_of, commands, among_of, command_of}
use Rattle.std.specs.Prelude.{Ok, Err}

-- a command's word names it
pub word-names : (c : Command) → command_of (word_of c) ≡ Ok c
unfolding command_of among_of commands word_of letters_of num_of
word-names Sync = refl
word-names Connect = refl
word-names Open = refl
word-names Ready = refl
word-names Close = refl
word-names Write = refl
word-names Auth = refl
word-names StartTls = refl

-- a word that names a command is its word, among any commands
named-among : (cs : List Command) (w : ℕ) (c : Command) → among_of cs w ≡ Ok c → w ≡ word_of c
unfolding among_of
named-among [] w c e = cc
named-among (d ∷ cs) w c e =
    by-test (eqb w (word_of d))
    (λ t. let n = eqb-true w (word_of d) t in let k = rw t at e in cc)
    (λ t. named-among cs w c (rw t at e))

pub named-word : (w : ℕ) (c : Command) → command_of w ≡ Ok c → w ≡ word_of c
unfolding command_of
named-word w c e = named-among commands w c e

-- words and magics are of 32 bits
pub word_small : (c : Command) → word_of c < 2 ^ 32
unfolding word_of letters_of num_of
word_small Sync = lit< tt
word_small Connect = lit< tt
word_small Open = lit< tt
word_small Ready = lit< tt
word_small Close = lit< tt
word_small Write = lit< tt
word_small Auth = lit< tt
word_small StartTls = lit< tt

pub magic-small : (c : Command) → magic_of c < 2 ^ 32
unfolding magic_of word_of letters_of num_of
magic-small Sync = lit< tt
magic-small Connect = lit< tt
magic-small Open = lit< tt
magic-small Ready = lit< tt
magic-small Close = lit< tt
magic-small Write = lit< tt
magic-small Auth = lit< tt
magic-small StartTls = lit< tt

-- a word that is none of the eight names none
pub none_named : (w : ℕ) → (w ≡ 0x434e_5953 → ⊥) → (w ≡ 0x4e58_4e43 → ⊥) → (w ≡ 0x4e45_504f → ⊥) → (w ≡ 0x5941_4b4f → ⊥)
    → (w ≡ 0x4553_4c43 → ⊥) → (w ≡ 0x4554_5257 → ⊥) → (w ≡ 0x4854_5541 → ⊥) → (w ≡ 0x534c_5453 → ⊥) → Err (record { 0 = w }) ≡ command_of w
unfolding command_of among_of commands word_of letters_of num_of
none_named w a b c d e f g h =
    rw (
      ne_eqb w 0x434e_5953 a,
      ne_eqb w 0x4e58_4e43 b,
      ne_eqb w 0x4e45_504f c,
      ne_eqb w 0x5941_4b4f d,
      ne_eqb w 0x4553_4c43 e,
      ne_eqb w 0x4554_5257 f,
      ne_eqb w 0x4854_5541 g,
      ne_eqb w 0x534c_5453 h,
    )

-- what holds of each command
pub by_command : (P : Command → Type 0) → P Sync → P Connect → P Open → P Ready → P Close → P Write → P Auth → P StartTls → (c : Command) → P c
by_command P a b c d e f g h Sync = a
by_command P a b c d e f g h Connect = b
by_command P a b c d e f g h Open = c
by_command P a b c d e f g h Ready = d
by_command P a b c d e f g h Close = e
by_command P a b c d e f g h Write = f
by_command P a b c d e f g h Auth = g
by_command P a b c d e f g h StartTls = h
