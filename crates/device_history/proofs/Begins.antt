-- What making a device's end leaves: one that waits for the host's CNXN, its connection whole and fresh. Assumes nothing.
use Rattle.std.proofs.Common.{◌≡◌, ap, ◌∙◌, true, false, List, [], ◌++◌, ℕ, ◌≤◌, ltb, leb, length, drop, length-take, length-drop, arith}
use borrow.Author.Tests.{le-ltb, leb-true, ltb-false}
use Rattle.le.proofs.Parts.{by-test}
use Rattle.config.specs.declared.ConnectionConfig.{ConnectionConfig}
use Rattle.config.specs.declared.negotiated.Negotiated.{Negotiated}
use Rattle.config.specs.Config.{within_limits}
use Rattle.config.specs.Negotiated.{negotiated_of}
use Rattle.config.proofs.Laws.{and-true}
use Rattle.slot.proofs.Laws.{cond-false}
use Rattle.state.specs.State.{state_len, state_of}
use Rattle.state_whole.specs.Whole.{is_whole}
use Rattle.connection.specs.Calls.{Made, fresh}
use Rattle.call_make.specs.Make.{make_in}
use Rattle.history.specs.Run.{World, made}
use Rattle.history.proofs.Never13.{holds-whole, made_holds, made-state}
use Rattle.device.specs.Device.{most_text, inner_at, device_len, head_of, inner_of}
use Rattle.device_make.specs.Make.{fits, head_made, inner_made, device_made, BeginsAlone, MadeBegins}
use Rattle.device_make.proofs.MadeLaws.{made-text, made-fine, made-alone, made-inner}

module _ (c : ConnectionConfig) (b : List ℕ) (w : within_limits c ≡ true) (long : state_len ≤ length b) where
  abbrev agreed : Negotiated
  agreed = negotiated_of false false 0x0100_0001 c.max_payload c

  abbrev first : World
  first = made c 0x0100_0001 c.max_payload false false b [] []

  same : inner_made c b ≡ first.state
  unfolding inner_made make_in made
  same = ap (λ (x : Made). x.state) (cond-false (ltb (length b) state_len) _ _ (le-ltb (length b) state_len long))

  own-state : state_of (inner_made c b) ≡ fresh agreed
  own-state = ap state_of same ∙ made-state c 0x0100_0001 c.max_payload false false b [] [] w

  own-whole : is_whole (inner_made c b) ≡ true
  own-whole = ap is_whole same ∙ holds-whole agreed (drop state_len b) (length {A = ℕ} []) (length {A = ℕ} []) first (made_holds c 0x0100_0001 c.max_payload false false b [] [] w)

-- ---- both

-- where it is done
module _ (c : ConnectionConfig) (text b : List ℕ) (long : device_len ≤ length b) (t : fits c (length text) ≡ true) where
  head-of-long : length (head_of b) ≡ inner_at
  unfolding head_of
  head-of-long = let h = length-take inner_at b in omega arith

  inner-long : state_len ≤ length (inner_of b)
  unfolding inner_of
  inner-long = let h = length-drop inner_at b in omega arith

  text-short : length text ≤ most_text
  unfolding fits
  text-short = leb-true (length text) most_text (and-true (within_limits c) (leb (length text) most_text) t).1

  limits-kept : within_limits c ≡ true
  unfolding fits
  limits-kept = (and-true (within_limits c) (leb (length text) most_text) t).0

  begins-alone : BeginsAlone c text (head_made text (head_of b) ++ inner_made c (inner_of b))
  begins-alone =
      let i = inner_made c (inner_of b) in
      let inner = made-inner (head_of b) text i head-of-long text-short in
      record {
        fine = made-fine (head_of b) text i head-of-long text-short;
        alone = made-alone (head_of b) text i head-of-long text-short;
        text-is = made-text (head_of b) text i head-of-long text-short;
        whole = ap is_whole inner ∙ own-whole c (inner_of b) limits-kept inner-long;
        is-fresh = ap state_of inner ∙ own-state c (inner_of b) limits-kept inner-long;
      }

pub made-begins : MadeBegins
unfolding device_made
made-begins c text b =
    by-test (ltb (length b) device_len)
    (λ t. rw t (λ e. absurd (cc)))
    (λ s. rw s
    (by-test (fits c (length text))
    (λ t. rw t (λ e. begins-alone c text b (omega (arith, ltb-false)) t))
    (λ t. rw t (λ e. absurd (cc)))))
