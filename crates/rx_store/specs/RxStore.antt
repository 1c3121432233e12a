-- One channel's share of the receive store: its buffered bytes lie in one run, `buffered` bytes from `head` on.
-- Assumes nothing.
use Rattle.std.specs.Prelude.{ℕ, ◌+◌, ◌*◌, ◌≤◌, Bool, cond, ◌≡◌, List, ◌++◌, leb, eqb, length, drop}
use Rattle.le.specs.Le.{part, put}

-- the run lies in the share, and the share has room for k bytes more
pub record Room (len head buffered k : ℕ) : Type 0 where
  pub run_fits : head + buffered ≤ len
  pub more-fits : buffered + k ≤ len

-- the share with the run moved down to its start
unfoldable pub slid : List ℕ → ℕ → ℕ → List ℕ
slid share head n = part share head n ++ drop n share

-- k bytes more fit behind the run
unfoldable pub fits_behind : ℕ → ℕ → ℕ → ℕ → Bool
fits_behind len head buffered k = leb (head + buffered + k) len

-- where the run begins after an append: as before where the payload fits behind it, else at the start
unfoldable pub appended_head : ℕ → ℕ → ℕ → ℕ → ℕ
appended_head len head buffered k = cond (fits_behind len head buffered k) head 0

-- the share after an append; the run moves down first only where the payload would pass the share's end
unfoldable pub appended : List ℕ → ℕ → ℕ → List ℕ → List ℕ
appended share head buffered payload =
    cond (fits_behind (length share) head buffered (length payload)) (put share (head + buffered) payload)
    (put (slid share head buffered) buffered payload)

-- where the run begins after n of its bytes were taken: a run that becomes empty starts again at 0
unfoldable pub taken_head : ℕ → ℕ → ℕ → ℕ
taken_head head buffered n = cond (eqb n buffered) 0 (head + n)

-- what `append` promises: the new head, and every byte of the share
pub record Appends (share : List ℕ) (head buffered : ℕ) (payload : List ℕ) (r : ℕ) (after : List ℕ) : Type 0 where
  pub head-is : r ≡ appended_head (length share) head buffered (length payload)
  pub share-is : after ≡ appended share head buffered payload

-- ---- the store: a share of 2 × cap bytes for each slot

-- slot i's share
unfoldable pub share_of : List ℕ → ℕ → ℕ → List ℕ
share_of rx cap i = part rx (i * (2 * cap)) (2 * cap)

-- slot i's share lies in a store of this length
abbrev pub ShareFits : ℕ → ℕ → ℕ → Type 0
ShareFits i cap len = i * (2 * cap) + 2 * cap ≤ len

-- a payload put behind the run in slot i's share
unfoldable pub buffered_in : List ℕ → ℕ → ℕ → ℕ → ℕ → List ℕ → List ℕ
buffered_in rx cap i head buffered payload = put rx (i * (2 * cap)) (appended (share_of rx cap i) head buffered payload)

-- the n bytes from `head` on in slot i's share
unfoldable pub front_of : List ℕ → ℕ → ℕ → ℕ → ℕ → List ℕ
front_of rx cap i head n = part (share_of rx cap i) head n
