-- The device's queued OPENs (incoming.rs): the first `queued` of the state's 64 entries, and their
-- destinations in the open store, share k from byte k * max_payload on. Assumes nothing.
use Rattle.std.specs.Prelude.{ℕ, zero, suc, ◌+◌, ◌-◌, ◌*◌, ◌≤◌, ◌<◌, Bool, true, false, not, cond, ◌||◌, ◌≡◌, List, [], ◌∷◌, ◌++◌, eqb, leb, length, take, drop, get_or, Option, Some, None}
use Rattle.le.specs.Le.{part, put}
use Rattle.slot.specs.declared.ids.RemoteId.{RemoteId}
use Rattle.state.specs.declared.Header.{Header}
use Rattle.state.specs.declared.Pending.TheVariants.{Offer}
use Rattle.state.specs.declared.QueuedOpen.{QueuedOpen}
use Rattle.state.specs.Change.{Change, queued_to, queue_to, put_queue, put_all, Step}
use Rattle.state.specs.State.{state_len, none_queued}

-- ---- what is queued

-- an OPEN of the device's: its number there, the credit it gives us, and what it wants to reach
pub record Incoming : Type 0 where
  pub remote : RemoteId
  pub credit : ℕ
  pub destination : List ℕ

-- what an entry stands for: its destination is the first bytes of its share of the open store
unfoldable pub queued_as : ℕ → List ℕ → QueuedOpen → Incoming
queued_as payload store q = record { remote = q.remote; credit = q.credit; destination = part store (q.share * payload) q.length }

-- what is queued, in order
unfoldable pub queued_opens : ℕ → List ℕ → List QueuedOpen → List Incoming
queued_opens payload store [] = []
queued_opens payload store (q ∷ qs) = queued_as payload store q ∷ queued_opens payload store qs

-- ---- shares

-- whether one of them uses share k
unfoldable pub named : ℕ → List QueuedOpen → Bool
named k [] = false
named k (q ∷ qs) = eqb q.share k || named k qs

-- the lowest of the n shares from k on that none of them uses, or k + n
unfoldable pub free_from : ℕ → ℕ → List QueuedOpen → ℕ
free_from k zero qs = k
free_from k (suc n) qs = cond (named k qs) (free_from (suc k) n qs) k

-- the lowest share below n that none of them uses, or n
unfoldable pub free_share : ℕ → List QueuedOpen → ℕ
free_share n qs = free_from 0 n qs

-- ---- those that stay

-- all stay, or all but those of one remote number
unfoldable pub stays_by : Option RemoteId → QueuedOpen → Bool
stays_by None q = true
stays_by (Some gone) q = not (eqb q.remote.0 gone.0)

-- those that stay, in order
unfoldable pub kept : Option RemoteId → List QueuedOpen → List QueuedOpen
kept keep [] = []
kept keep (q ∷ qs) = cond (stays_by keep q) (q ∷ kept keep qs) (kept keep qs)

-- what is queued without those of one remote number
unfoldable pub withdrawn : RemoteId → List Incoming → List Incoming
withdrawn gone [] = []
withdrawn gone (x ∷ xs) = cond (eqb x.remote.0 gone.0) (withdrawn gone xs) (x ∷ withdrawn gone xs)

-- what `retain` promises: how many stay, and every byte of the state
pub record Retains (qs : List QueuedOpen) (before : List ℕ) (r : ℕ) (after : List ℕ) : Type 0 where
  pub count-is : r ≡ length qs
  pub state-is : after ≡ put_queue before qs

-- ---- what withdraw, pop_front and push_front do

-- what both ask for: a whole state's length, no more than 64 channels, no more OPENs than channels
pub record QueueOk (h : Header) (state : ℕ) : Type 0 where
  pub state-long : state_len ≤ state
  pub most-channels : h.negotiated.config.channels ≤ 64
  pub queue-fits : h.queued ≤ h.negotiated.config.channels

-- a header that says how many are queued
abbrev pub with_queued : Header → ℕ → Header
with_queued h n = record { negotiated = h.negotiated; next_local = h.next_local; pending = h.pending; queued = n }

-- those of one remote number go, the others close up
unfoldable pub withdrawal : Header → List QueuedOpen → RemoteId → Step Header
withdrawal h queue gone =
    record {
      result = with_queued h (length (kept (Some gone) (take h.queued queue)));
      changes = queue_to (kept (Some gone) (take h.queued queue)) ∷ [];
    }

-- a header that says that the entry behind those that are queued is an offer
abbrev pub offering : Header → Header
offering h =
    record {
      negotiated = h.negotiated;
      next_local = h.next_local;
      pending = record { what = Offer; slot = h.pending.slot; local = h.pending.local };
      queued = h.queued;
    }

-- the first goes, the others move up, and it stands behind them as an offer; nothing where none is queued
unfoldable pub popped : Header → List QueuedOpen → Step (Option (QueuedOpen × Header))
popped h queue =
    cond (eqb h.queued 0) (record { result = None; changes = [] })
    (record {
      result = Some (get_or queue 0 none_queued, offering (with_queued h (h.queued - 1)));
      changes = queue_to (drop 1 (take h.queued queue) ++ get_or queue 0 none_queued ∷ []) ∷ [];
    })

-- what push_front asks for: a whole state's length, room for one more
pub record FrontRoom (h : Header) (state : ℕ) : Type 0 where
  pub state-long : state_len ≤ state
  pub room : h.queued < 64

-- one is put ahead of those that are queued
unfoldable pub returned : Header → List QueuedOpen → QueuedOpen → Step Header
returned h queue q = record { result = with_queued h (h.queued + 1); changes = queue_to (q ∷ take h.queued queue) ∷ [] }

-- ---- what push_back does

-- what it asks for besides: an open store of a share for each channel, a destination that fits one
pub record PushRoom (h : Header) (state store destination : ℕ) : Type 0 where
  pub queue : QueueOk h state
  pub store_long : h.negotiated.config.channels * h.negotiated.config.max_payload ≤ store
  pub destination-fits : destination ≤ h.negotiated.config.max_payload

-- an answer, what changes in the state, and the open store
pub record PushOutcome : Type 0 where
  pub result : Option Header
  pub changes : List Change
  pub store : List ℕ

-- what it promises: the answer, every byte of the state and of the open store
pub record Pushes (o : PushOutcome) (before : List ℕ) (r : Option Header) (after store : List ℕ) : Type 0 where
  pub result-is : r ≡ o.result
  pub state-is : after ≡ put_all before o.changes
  pub store_is : store ≡ o.store

-- the share of the next OPEN: the lowest that none of those that are queued uses
unfoldable pub next_share : Header → List QueuedOpen → ℕ
next_share h queue = free_share h.negotiated.config.channels (take h.queued queue)

-- an OPEN is put behind those that are queued; none is while as many are queued as there are channels
unfoldable pub pushed : Header → List QueuedOpen → RemoteId → ℕ → List ℕ → List ℕ → PushOutcome
pushed h queue remote credit destination store =
    cond (leb h.negotiated.config.channels h.queued) (record { result = None; changes = []; store = store })
    (record {
      result = Some (with_queued h (h.queued + 1));
      changes = queued_to h.queued (record { remote = remote; credit = credit; share = next_share h queue; length = length destination }) ∷ [];
      store = put store (next_share h queue * h.negotiated.config.max_payload) destination;
    })
