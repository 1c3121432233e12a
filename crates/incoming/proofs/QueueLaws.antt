-- A push, a withdrawal, a pop and a return leave a whole state. Assumes nothing.
use mathlib.Core.Path.{◌≡◌, refl, sym, ap, subst, ◌∙◌}
use mathlib.Core.Bool.{true, false}
use mathlib.Core.List.{List, [], ◌∷◌, ◌++◌, append_assoc}
use Prim.Native.Nat.{ℕ, zero, suc, ◌+◌, ◌-◌, ◌*◌, ◌^◌, ◌≤◌, ◌<◌}
use native.Mathlib.Omega.{arith}
use lib.Dec.{eqb, leb}
use lib.ListN.{length, take, drop, get_or, set, length-set, length-append, length-take, length-drop}
use lib.Seq.{take_at}
use borrow.Author.Tests.{leb-false, eqb-false}
use Rattle.le.proofs.Parts.{length-put}
use Rattle.slot.specs.declared.ids.RemoteId.{RemoteId}
use Rattle.slot.specs.declared.ChannelSlot.{ChannelSlot}
use Rattle.slot.proofs.Kept.{pick}
use Rattle.config.specs.declared.negotiated.Negotiated.{Negotiated}
use Rattle.state.specs.declared.Header.{Header}
use Rattle.state.specs.declared.Pending.{Pending}
use Rattle.state.specs.declared.Pending.TheVariants.{Nothing as NothingPending, Opening as OursPending, Offer}
use Rattle.state.specs.declared.QueuedOpen.{QueuedOpen}
use Rattle.state.specs.Change.{Change, queue_to, changed_all, InPlace, Step}
use Rattle.state.specs.State.{is_ours, is_offer, none_queued, Connection}
use Rattle.state_whole.specs.Whole.{queued_fine, queue_fine}
use Rattle.le.proofs.RowLaws.{never, walk_here, Every, every_set, every_append, every_drop, every_take}
use Rattle.state.proofs.StateLaws.{OpenFits}
use Rattle.incoming.specs.Incoming.{free_share, kept, with_queued, withdrawal, offering, popped, returned, next_share, PushOutcome, pushed}
use Rattle.incoming.proofs.ShareLaws.{next-below, share-fits}
use Rattle.incoming.proofs.ListLaws.{fine-parts, fine-cons, fine-snoc, get_or-behind, push-fine, kept_fine, kept-every, length-kept}
use Rattle.state_whole.proofs.WholeLaws.{Whole, OpensWhole, OfferWhole}
use Rattle.std.specs.Prelude.{Option, Some, None}

-- changes to the queued opens os alone, after which the header is `more`
pub record QueueKeeps (n : Negotiated) (ss : List ChannelSlot) (os : List QueuedOpen) (more : Header) (xs : List Change) : Type 0 where
  pub within : Every InPlace xs
  pub slots : (d : Connection) → (changed_all d xs).slots ≡ d.slots
  pub facts : (d : Connection) → d.queue ≡ os → Whole n more ss (changed_all d xs).queue

-- a header with no offer
abbrev pub NoOffer : Header → Type 0
NoOffer h = is_offer h.pending.what ≡ false

-- what holds of every one holds of the one at a place
pub every-get_or : {A : Type 0} (P : A → Type 0) (l : List A) (i : ℕ) (d : A) → i < length l → Every P l → P (get_or l i d)
every-get_or P [] i d h e = absurd (omega arith)
every-get_or P (a ∷ l) zero d h e = e.0
every-get_or P (a ∷ l) (suc i) d h e = every-get_or P l i d (omega arith) e.1

-- at most one thing is pending
pub ours-alone : (w : Pending) → is_ours w ≡ true → is_offer w ≡ false
ours-alone NothingPending e = refl
ours-alone OursPending e = refl
ours-alone Offer e = never e

module _ (h : Header) (ss : List ChannelSlot) (os : List QueuedOpen) (g : Whole h.negotiated h ss os) (no : NoOffer h) where
  whole-queue : (q : ℕ) (qs : List QueuedOpen) → q ≤ h.negotiated.config.channels → OpensWhole h.negotiated q qs → Whole h.negotiated (with_queued h q) ss qs
  whole-queue q qs k o =
      record {
        limits = g.limits;
        header =
            record {
              negotiated = refl;
              next-some = g.header.next-some;
              next_fits = g.header.next_fits;
              place-fits = g.header.place-fits;
              local_fits = g.header.local_fits;
              queue-fits = k;
            };
        slots = g.slots;
        pending-open = g.pending-open;
        queue = o;
        offer = λ e. never (sym no ∙ e);
      }

  -- the entry behind is an offer
  whole-offer : (q : ℕ) (qs : List QueuedOpen) → q ≤ h.negotiated.config.channels → OpensWhole h.negotiated q qs → OfferWhole h.negotiated q qs
      → Whole h.negotiated (offering (with_queued h q)) ss qs
  whole-offer q qs k o f =
      let v = whole-queue q qs k o in
      record {
        limits = v.limits;
        header =
            record {
              negotiated = refl;
              next-some = g.header.next-some;
              next_fits = g.header.next_fits;
              place-fits = g.header.place-fits;
              local_fits = g.header.local_fits;
              queue-fits = k;
            };
        slots = v.slots;
        pending-open = λ e. never e;
        queue = o;
        offer = λ e. f;
      }

  -- ---- a push

  abbrev pub PushedAs : ℕ → PushOutcome → Option Header → Type 0
  PushedAs store o (Some more) = QueueKeeps h.negotiated ss os more o.changes × (length o.store ≡ store)
  PushedAs store o None = Unit {0}

  abbrev pub PushKeeps : ℕ → PushOutcome → Type 0
  PushKeeps store o = PushedAs store o o.result

  pub push-keeps : (remote : RemoteId) (credit : ℕ) (destination store : List ℕ) → remote.0 < 2 ^ 32 → credit < 2 ^ 32
      → length destination ≤ h.negotiated.config.max_payload → h.negotiated.config.channels * h.negotiated.config.max_payload ≤ length store
      → PushKeeps (length store) (pushed h os remote credit destination store)
  unfolding pushed next_share
  push-keeps remote credit destination store r k d long =
      let n = h.negotiated.config.channels in
      let payload = h.negotiated.config.max_payload in
      let w = g.limits.within in
      let full = g.queue.full in
      pick (PushKeeps (length store)) (leb n h.queued) (λ t. tt)
      (λ t. let room = leb-false n h.queued t in
      let share = next-below n h.queued os room in
      let fits = share-fits n payload h.queued (free_share n (take h.queued os)) os room refl in
      let q : QueuedOpen = record { remote = remote; credit = credit; share = free_share n (take h.queued os); length = length destination } in (
        record {
          within = (omega arith, tt);
          slots = λ c. refl;
          facts = λ c e.
              whole-queue (h.queued + 1) (set c.queue h.queued q) (omega arith)
              (subst (λ (x : List QueuedOpen). OpensWhole h.negotiated (h.queued + 1) (set x h.queued q)) (sym e)
              (record {
                full = length-set os h.queued q ∙ full;
                fits = every_set OpenFits os h.queued q g.queue.fits (record { remote = r; credit = k; share = omega arith; length = omega arith });
                fine = push-fine n payload h.queued os q (omega arith) g.queue.fine share d;
              }));
        },
        length-put store (free_share n (take h.queued os) * payload) destination (omega arith),
      ))

  -- ---- the first ones are replaced by no more than were queued

  opens-whole : (ks : List QueuedOpen) (q : ℕ) → length ks ≡ q → q ≤ 64 → Every OpenFits ks
      → queue_fine h.negotiated.config.channels h.negotiated.config.max_payload ks ≡ true → OpensWhole h.negotiated q (ks ++ drop (length ks) os)
  opens-whole ks q e k f o =
      let full = g.queue.full in
      record {
        full = simp (length-append, length-drop) (omega arith);
        fits = every_append OpenFits ks (drop (length ks) os) f (every_drop OpenFits (length ks) os g.queue.fits);
        fine = ap (queue_fine h.negotiated.config.channels h.negotiated.config.max_payload) (take_at ks (drop (length ks) os) q e) ∙ o;
      }

  opens-keeps : (ks : List QueuedOpen) (q : ℕ) → length ks ≡ q → q ≤ h.negotiated.config.channels → Every OpenFits ks
      → queue_fine h.negotiated.config.channels h.negotiated.config.max_payload ks ≡ true → QueueKeeps h.negotiated ss os (with_queued h q) (queue_to ks ∷ [])
  opens-keeps ks q e k f o =
      let most = g.limits.within.most-channels in
      record {
        within = (omega arith, tt);
        slots = λ c. refl;
        facts = λ c z.
            whole-queue q (ks ++ drop (length ks) c.queue) k
            (subst (λ (x : List QueuedOpen). OpensWhole h.negotiated q (ks ++ drop (length ks) x)) (sym z) (opens-whole ks q e (omega arith) f o));
      }

  -- a withdrawal
  pub withdraw-keeps : (gone : RemoteId) → QueueKeeps h.negotiated ss os (withdrawal h os gone).result (withdrawal h os gone).changes
  unfolding withdrawal
  withdraw-keeps gone =
      let n = h.negotiated.config.channels in
      let payload = h.negotiated.config.max_payload in
      let qs = take h.queued os in
      let k = length-kept (Some gone) qs in
      let m : length qs ≤ h.queued = simp length-take (omega arith) in
      let w = g.header.queue-fits in
      opens-keeps (kept (Some gone) qs) (length (kept (Some gone) qs)) refl (omega arith)
      (kept-every OpenFits (Some gone) qs (every_take OpenFits h.queued os g.queue.fits))
      (kept_fine n payload (Some gone) qs g.queue.fine)

  -- a pop
  abbrev pub FrontAs : List Change → Option (QueuedOpen × Header) → Type 0
  FrontAs xs (Some (q, less)) = QueueKeeps h.negotiated ss os less xs
  FrontAs xs None = Unit {0}

  abbrev pub FrontKeeps : Step (Option (QueuedOpen × Header)) → Type 0
  FrontKeeps s = FrontAs s.changes s.result

  pub pop-keeps : FrontKeeps (popped h os)
  unfolding popped
  pop-keeps =
      let n = h.negotiated.config.channels in
      let payload = h.negotiated.config.max_payload in
      let qs = take h.queued os in
      let w = g.header.queue-fits in
      let most = g.limits.within.most-channels in
      let full = g.queue.full in
      pick FrontKeeps (eqb h.queued 0) (λ t. tt)
      (λ t. let z = eqb-false h.queued 0 t in
      let first = get_or os 0 none_queued in
      let ks = drop 1 qs in
      let all = ks ++ first ∷ [] in
      let e : length ks ≡ h.queued - 1 = simp (length-drop, length-take) (omega arith) in
      let m : length all ≡ h.queued = simp length-append (omega arith) in
      let cut : qs ≡ first ∷ ks = walk_here os h.queued 0 none_queued first (omega arith) (omega arith) refl in
      let fine = subst (λ (x : List QueuedOpen). queue_fine n payload x ≡ true) cut g.queue.fine in
      let fits = every_take OpenFits h.queued os g.queue.fits in
      let here = (subst (λ (x : List QueuedOpen). Every OpenFits x) cut fits).0 in
      record {
        within = (omega arith, tt);
        slots = λ c. refl;
        facts = λ c y. subst (λ (x : List QueuedOpen). Whole h.negotiated (offering (with_queued h (h.queued - 1))) ss (all ++ drop (length all) x)) (sym y)
            (let o = opens-whole all h.queued m (omega arith) (every_append OpenFits ks (first ∷ []) (every_drop OpenFits 1 qs fits) (here, tt))
            (fine-snoc n payload ks first (fine-parts n payload first ks fine).1 (fine-parts n payload first ks fine).0) in
            let v = drop (length all) os in
            let j : all ++ v ≡ ks ++ first ∷ v = append_assoc ks (first ∷ []) v in
            let at : get_or (all ++ v) (h.queued - 1) none_queued ≡ first =
            ap (λ (x : List QueuedOpen). get_or x (h.queued - 1) none_queued) j ∙ get_or-behind ks first v none_queued (h.queued - 1) e in
            whole-offer (h.queued - 1) (all ++ v) (omega arith)
            (record {
              full = o.full;
              fits = o.fits;
              fine = ap (queue_fine n payload) (ap (take (h.queued - 1)) j ∙ take_at ks (first ∷ v) (h.queued - 1) e) ∙ (fine-parts n payload first ks fine).1;
            })
            (record { room = omega arith; fine = ap (queued_fine n payload) at ∙ (fine-parts n payload first ks fine).0 }));
      })

  -- a return
  pub return-keeps : (q : QueuedOpen) → h.queued < h.negotiated.config.channels → OpenFits q
      → queued_fine h.negotiated.config.channels h.negotiated.config.max_payload q ≡ true
      → QueueKeeps h.negotiated ss os (returned h os q).result (returned h os q).changes
  unfolding returned
  return-keeps q room fits fine =
      let n = h.negotiated.config.channels in
      let payload = h.negotiated.config.max_payload in
      let qs = take h.queued os in
      let most = g.limits.within.most-channels in
      let full = g.queue.full in
      let e : length (q ∷ qs) ≡ h.queued + 1 = simp length-take (omega arith) in
      opens-keeps (q ∷ qs) (h.queued + 1) e (omega arith) (fits, every_take OpenFits h.queued os g.queue.fits) (fine-cons n payload q qs fine g.queue.fine)
