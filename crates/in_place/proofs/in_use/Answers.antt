use Rattle.std.proofs.Common.{◌≡◌, ℕ, ◌+◌, Bool, true, false, cond, List, refl, sym, ◌∙◌, zero-add, rules}
use Rattle.std.specs.List.{count_by}
use Rattle.std.proofs.lemmas.List.Recursion.{is_count_by}
use Rattle.slot.specs.declared.ChannelSlot.{ChannelSlot}
use Rattle.table.specs.Table.{count_of}
use Rattle.in_place.specs.InPlace.{filled_in}
use Rattle.in_place.proofs.in_use.Goals as goal

one_more : (b : Bool) (n : ℕ) → cond b 1 0 + n ≡ cond b (1 + n) n
one_more true n = refl
one_more false n = zero-add n

counts : (ss : List ChannelSlot) → count_of (λ (s : ChannelSlot). s.filled) ss ≡ count_by (λ (s : ChannelSlot). s.filled) ss
unfolding count_of
counts ss = is_count_by (count_of (λ (s : ChannelSlot). s.filled)) (λ (s : ChannelSlot). s.filled) refl (λ s rest. one_more s.filled (count_of (λ (x : ChannelSlot). x.filled) rest)) ss

pub returns : goal.returns
unfolding filled_in
returns c =
    let e : c.count.result ≡ count_by (λ (s : ChannelSlot). s.filled) c.args.slots.now = search rules in
    e ∙ sym (counts c.args.slots.now)
