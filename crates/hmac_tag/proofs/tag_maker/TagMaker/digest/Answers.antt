use Rattle.std.proofs.Common.{◌∙◌, ◌++◌, ap, List, ℕ}
use Rattle.sha2.specs.Sha256.{sha256}
use Rattle.sha2.specs.Hashers.{Holds256}
use Rattle.image_model.specs.Tag.{outer_pad}
use Rattle.hmac_tag.proofs.PreparedLemmas.{digest_under-plain, digest_under-keyed}
use Rattle.hmac_tag.proofs.tag_maker.TagMaker.digest.Goals as goal

pub returns-in-Plain : goal.returns-in-Plain
returns-in-Plain c =
    let begun = rw (← c.copy_of-inner.ensures) at c.self.invariant.inner in
    let inner = c.finalize-digest.ensures _ (c.update-2.ensures _ (c.update.ensures _ begun)) in
    rw (← c.self.view_is) ((rw c.to_le_bytes.ensures at inner)
    ∙ digest_under-plain c.self.inside.prepared c.self.inside.salt c.args.sector c.args.bytes.now c.in-Plain.is)

pub returns-in-Keyed : goal.returns-in-Keyed
returns-in-Keyed c =
    let begun = rw (← c.copy_of-inner.ensures) at c.self.invariant.inner in
    let inner = c.finalize-digest.ensures _ (c.update-2.ensures _ (c.update.ensures _ begun)) in
    let begun_outer : Holds256 c.copy_of-outer.result (outer_pad c.in-Keyed.key) =
    rw c.copy_of-outer.ensures (rw c.in-Keyed.is at c.self.invariant.outer) in
    let outer = c.finalize.ensures _ (c.update-in-Keyed.ensures _ begun_outer) in
    rw (← c.self.view_is) (outer
    ∙ ap (λ (digest : List ℕ). sha256 (outer_pad c.in-Keyed.key ++ digest)) (rw c.to_le_bytes.ensures at inner)
    ∙ digest_under-keyed c.self.inside.prepared c.in-Keyed.key c.in-Keyed.outer c.self.inside.salt c.args.sector
    c.args.bytes.now c.in-Keyed.is)
