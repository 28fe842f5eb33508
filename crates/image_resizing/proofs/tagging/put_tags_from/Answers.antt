use Rattle.std.proofs.Common.{◌≡◌, ⊎_elim, ◌+◌, ◌-◌, ◌≤◌, ◌∙◌, ap, sym, arith, length, drop, slice_index}
use Rattle.std.proofs.lemmas.List.{get_or-drop, get_or-take}
use Rattle.image_resizing.proofs.PartLemmas.{byte_before, byte_in}
use Rattle.image_resizing.proofs.tagging.put_tags_from.Goals as goal

pub returns-clause-tags : goal.returns-clause-tags
returns-clause-tags c p low =
    let run = c.args.run.now in
    byte_in c.args.from (length run - c.args.from) run c.put_tags.new.bytes (omega (arith, c.requires.run)) p (omega (arith, low, c.put_tags.ensures.len, c.requires.run))
    ∙ c.put_tags.ensures.tags p low

pub returns-clause-rest : goal.returns-clause-rest
returns-clause-rest c p low other =
    let run = c.args.run.now in
    let from = c.args.from in
    let begins : from ≤ length run = omega (arith, c.requires.run) in
    ⊎_elim
    (λ before. byte_before from (length run - from) run c.put_tags.new.bytes begins p before)
    (λ behind.
    let q = p - from in
    let there : from + q ≡ p = omega (arith, behind) in
    ap (slice_index _) (sym there)
    ∙ byte_in from (length run - from) run c.put_tags.new.bytes begins q (omega (arith, low, behind, c.put_tags.ensures.len))
    ∙ c.put_tags.ensures.behind q (omega (arith, behind))
    ∙ get_or-take (length run - from) (drop from run) q 0 (omega (arith, low, behind))
    ∙ get_or-drop from run q 0
    ∙ ap (slice_index run) there) other
