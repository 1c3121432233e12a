-- The eight commands (protocol.txt, "message command constants"). Assumes nothing.
use Rattle.std.specs.Prelude.{ℕ, Bool, cond, List, [], ◌∷◌, eqb}
use Rattle.std.specs.Int.Bits.{bit_xor}
use Rattle.le.specs.Le.{num_of}
use Rattle.protocol.specs.declared.command.Command.{Command}
use Rattle.protocol.specs.declared.command.Command.TheVariants.{Sync, Connect, Open, Ready, Close, Write, Auth, StartTls}
use Rattle.protocol.specs.declared.command.UnknownCommand.{UnknownCommand}
use Rattle.std.specs.Prelude.{Result, Ok, Err}

-- a command's four letters in ASCII: SYNC, CNXN, OPEN, OKAY, CLSE, WRTE, AUTH, STLS
unfoldable pub letters_of : Command → List ℕ
letters_of Sync = 83 ∷ 89 ∷ 78 ∷ 67 ∷ []
letters_of Connect = 67 ∷ 78 ∷ 88 ∷ 78 ∷ []
letters_of Open = 79 ∷ 80 ∷ 69 ∷ 78 ∷ []
letters_of Ready = 79 ∷ 75 ∷ 65 ∷ 89 ∷ []
letters_of Close = 67 ∷ 76 ∷ 83 ∷ 69 ∷ []
letters_of Write = 87 ∷ 82 ∷ 84 ∷ 69 ∷ []
letters_of Auth = 65 ∷ 85 ∷ 84 ∷ 72 ∷ []
letters_of StartTls = 83 ∷ 84 ∷ 76 ∷ 83 ∷ []

-- the word of a command: its letters, read as a little-endian number
unfoldable pub word_of : Command → ℕ
word_of c = num_of (letters_of c)

-- magic: command ^ 0xffffffff (protocol.txt, "protocol overview and basics")
unfoldable pub magic_of : Command → ℕ
magic_of c = bit_xor (word_of c) 0xffff_ffff

-- all commands, in the order of the Rust's match
unfoldable pub commands : List Command
commands = Sync ∷ Connect ∷ Open ∷ Ready ∷ Close ∷ Write ∷ Auth ∷ StartTls ∷ []

-- the first of some commands that has this word
unfoldable pub among_of : List Command → ℕ → Result Command UnknownCommand
among_of [] word = Err (record { 0 = word })
among_of (c ∷ cs) word = cond (eqb word (word_of c)) (Ok c) (among_of cs word)

-- the command that a word names
unfoldable pub command_of : ℕ → Result Command UnknownCommand
command_of word = among_of commands word

-- the command d, told by its word
unfoldable pub is_the : Command → Command → Bool
is_the d c = eqb (word_of c) (word_of d)

-- an OPEN
unfoldable pub is_open : Command → Bool
is_open c = is_the Open c

-- an OKAY
unfoldable pub is_ready : Command → Bool
is_ready c = is_the Ready c

-- a CLSE
unfoldable pub is_close : Command → Bool
is_close c = is_the Close c

-- a WRTE
unfoldable pub is_write : Command → Bool
is_write c = is_the Write c
