-- What a packet does that a call does not take for itself leaves a whole state. Assumes nothing.
use mathlib.Core.Path.{◌≡◌, refl, sym, ap, subst, ◌∙◌}
use mathlib.Core.Bool.{true}
use mathlib.Core.List.{List, [], ◌++◌}
use Prim.Native.Nat.{ℕ, ◌*◌, ◌≤◌}
use lib.ListN.{length}
use Rattle.config.specs.declared.negotiated.Negotiated.{Negotiated}
use Rattle.config.specs.Negotiated.{policy_of}
use Rattle.incoming.specs.Incoming.{PushOutcome, pushed, withdrawal}
use Rattle.protocol.specs.declared.packet.Packet.{Packet}
use Rattle.slot.specs.declared.ids.RemoteId.{RemoteId}
use Rattle.state.specs.declared.Header.{Header}
use Rattle.state.specs.Change.{Change, changed_all, InPlace}
use Rattle.state.specs.State.{Connection}
use Rattle.le.proofs.RowLaws.{Every, every_append}
use Rattle.state.proofs.ChangeLaws.{changes-append}
use Rattle.table_dispatch.specs.declared.DispatchOutcome.{DispatchOutcome}
use Rattle.table_dispatch.specs.declared.DispatchOutcome.TheVariants.{AckWrite, CreditGranted, SlotClosed, DataBuffered, IncomingOpen, CancelQueuedOpen, StrayReady, ChannelFault, Unmatched}
use Rattle.table.specs.Table.{slot_in}
use Rattle.table_dispatch.specs.Dispatch.{Dispatched}
use Rattle.connection.specs.Act.{Acted, tabled, pushed_by, acted_by, table_of, act_on, PacketFits}
use Rattle.connection.specs.Frames.{Frame}
use Rattle.state_whole.proofs.WholeLaws.{Whole}
use Rattle.table_dispatch.proofs.KeepLaws.{AnswerFits, TableKeeps, dispatch-keeps}
use Rattle.incoming.proofs.QueueLaws.{QueueKeeps, NoOffer, PushedAs, push-keeps, withdraw-keeps}
use Rattle.slot.specs.declared.ChannelFault.{ChannelFault as SlotFault}
use Rattle.std.specs.Prelude.{Option, Some, None}

-- what a packet leaves: a whole state once its header is stored, channels in their places, both stores' lengths
pub record ActedKeeps (n : Negotiated) (c : Connection) (rx store : ℕ) (a : Acted) : Type 0 where
  pub within : Every InPlace a.changes
  pub facts : Whole n a.header (changed_all c a.changes).slots (changed_all c a.changes).queue
  pub filled : (i : ℕ) → (slot_in c.slots i).filled ≡ true → (slot_in (changed_all c a.changes).slots i).filled ≡ true
  pub rx-length : length a.rx ≡ rx
  pub store_length : length a.store ≡ store

module _ (h : Header) (c : Connection) (rx store : List ℕ) (g : Whole h.negotiated h c.slots c.queue) (no : NoOffer h) where
  tabled-keeps : (fault : Option SlotFault) (d : Dispatched) (fs : List Frame) → TableKeeps h.negotiated h c rx d
      → ActedKeeps h.negotiated c (length rx) (length store) (tabled fault h store d fs)
  tabled-keeps fault d fs t =
      record {
        within = t.within;
        facts = subst (Whole h.negotiated h (changed_all c d.step.changes).slots) (sym t.queue) t.facts;
        filled = t.filled;
        rx-length = t.rx-length;
        store_length = refl;
      }

  module _ (d : Dispatched) (t : TableKeeps h.negotiated h c rx d) where
    queued-keeps : (more : Header) (xs : List Change) (after : List ℕ) → QueueKeeps h.negotiated (changed_all c d.step.changes).slots c.queue more xs
        → length after ≡ length store
        → ActedKeeps h.negotiated c (length rx) (length store)
        (record { fault = None; header = more; changes = d.step.changes ++ xs; rx = d.rx; store = after; frames = [] })
    queued-keeps more xs after q e =
        let m = changed_all c d.step.changes in
        let z : changed_all c (d.step.changes ++ xs) ≡ changed_all m xs = changes-append c d.step.changes xs in
        record {
          within = every_append InPlace d.step.changes xs t.within q.within;
          facts = subst (λ (x : Connection). Whole h.negotiated more x.slots x.queue) (sym z)
              (subst (λ x. Whole h.negotiated more x (changed_all m xs).queue) (sym (q.slots m)) (q.facts m t.queue));
          filled = λ i f. ap (λ (x : Connection). (slot_in x.slots i).filled) z ∙ ap (λ x. (slot_in x i).filled) (q.slots m) ∙ t.filled i f;
          rx-length = t.rx-length;
          store_length = e;
        }

    pushed-keeps : (remote : RemoteId) (o : PushOutcome) (r : Option Header) → PushedAs h (changed_all c d.step.changes).slots c.queue t.facts no (length store) o r
        → ActedKeeps h.negotiated c (length rx) (length store) (pushed_by h store d remote o r)
    unfolding pushed_by
    pushed-keeps remote o (Some more) q = queued-keeps more o.changes o.store q.0 q.1
    pushed-keeps remote o None q = tabled-keeps None d _ t

    acted-by : (payload : List ℕ) → length payload ≤ h.negotiated.config.max_payload → h.negotiated.config.channels * h.negotiated.config.max_payload ≤ length store
        → (o : DispatchOutcome) → AnswerFits o → ActedKeeps h.negotiated c (length rx) (length store) (acted_by h c.queue payload store d o)
    unfolding acted_by
    acted-by payload k long (AckWrite i ids len) f = tabled-keeps None d _ t
    acted-by payload k long (CreditGranted i) f = tabled-keeps None d _ t
    acted-by payload k long (SlotClosed i) f = tabled-keeps None d _ t
    acted-by payload k long (DataBuffered i) f = tabled-keeps None d _ t
    acted-by payload k long (IncomingOpen remote credit) f =
        pushed-keeps remote (pushed h c.queue remote credit payload store) (pushed h c.queue remote credit payload store).result
        (push-keeps h (changed_all c d.step.changes).slots c.queue t.facts no remote credit payload store f.0 f.1 k long)
    acted-by payload k long (CancelQueuedOpen remote) f =
        queued-keeps (withdrawal h c.queue remote).result (withdrawal h c.queue remote).changes store
        (withdraw-keeps h (changed_all c d.step.changes).slots c.queue t.facts no remote) refl
    acted-by payload k long (StrayReady ids) f = tabled-keeps None d _ t
    acted-by payload k long (ChannelFault i ids opening e) f = tabled-keeps (Some e) d _ t
    acted-by payload k long Unmatched f = tabled-keeps None d _ t

  pub acted-keeps : h.negotiated.config.channels * (2 * (policy_of h.negotiated).rx_cap) ≤ length rx
      → h.negotiated.config.channels * h.negotiated.config.max_payload ≤ length store
      → (p : Packet) (payload : List ℕ) → PacketFits h.negotiated p payload
      → ActedKeeps h.negotiated c (length rx) (length store) (act_on h c.slots c.queue rx store p payload)
  unfolding act_on table_of
  acted-keeps rl sl p payload k =
      let t = dispatch-keeps h.negotiated h c rx g rl p payload k.arg0 k.arg1 in
      acted-by _ t payload k.small sl _ t.answer
