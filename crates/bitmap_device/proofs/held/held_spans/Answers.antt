use Rattle.std.proofs.Common.{◌≡◌, ◌+◌, ◌<◌, ◌||◌, Bool, ℕ, List, length, suc, take, sym, ◌∙◌, ap, rules, arith}
use Rattle.bitmap_mode.specs.Cleaning.{is_in_span}
use Rattle.request_slots.specs.declared.slot.Slot.{Slot}
use Rattle.bitmap_device.proofs.HeldLemmas.{held_all, held_more, is_held_in, none_more, spans_all, spans_more}
use Rattle.bitmap_device.proofs.held.held_spans.Goals as goal

pub loop-range-preserved : goal.loop-range-preserved
loop-range-preserved c =
    let g = c.args.regions.now.geometry in
    let slots = c.args.slots.now.slots in
    let inv = c.loop-range.invariant in
    let place = c.loop-range.place in
    let more = held_more g slots place c.in-Some.range (sym c.range_at.ensures.range ∙ c.in-Some.is) in
    let low = more.low in
    let few = c.range_at.ensures.few in
    let size = inv.size in
    let inside : place < length c.loop-range.spans = omega (arith, low, few, size) in
    let next : suc place ≡ place + 1 = omega arith in
    record {
      size = search rules;
      low = omega (arith, low);
      done = λ region.
          spans_more c.loop-range.spans place c.span_of.result region inside
          ∙ ap (λ (t : Bool). t || is_in_span c.span_of.result region) (inv.done region)
          ∙ ap (λ (t : Bool). is_held_in g (take place slots) region || t) (c.span_of.ensures region)
          ∙ sym (more.told region)
          ∙ ap (λ (n : ℕ). is_held_in g (take n slots) region) next;
      none = λ region. none_more c.loop-range.spans place c.span_of.result region (inv.none region);
    }

pub returns : goal.returns
returns c region =
    let g = c.args.regions.now.geometry in
    let slots = c.args.slots.now.slots in
    let place = c.loop-range.place in
    spans_all c.loop-range.spans place region (c.loop-range.invariant.none region)
    ∙ c.loop-range.invariant.done region
    ∙ ap (λ (xs : List Slot). is_held_in g xs region) (held_all slots place (sym c.range_at.ensures.range ∙ c.in_default.is))
