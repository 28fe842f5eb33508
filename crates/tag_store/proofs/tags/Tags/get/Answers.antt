use Rattle.std.proofs.Common.{◌≡◌, ◌<◌, ◌∙◌, ap, sym, subst, arith, length, ℕ}
use Rattle.std.proofs.lemmas.List.{length-take-le, take-append-le, take_all}
use Rattle.buffer_cache.specs.Cache.{sectors_of}
use Rattle.disk_model.specs.Disk.{OnlyAdds}
use Rattle.disk_model.specs.Moments.{EachSince}
use Rattle.buffer_cache.specs.Cached.{cached}
use Rattle.tag_store.specs.Spans.{span_of}
use Rattle.image_model.specs.Geometry.{Shape}
use Rattle.tag_store.specs.Store.{IsOutForTag, IsStore, Store, given, tags_in}
use Rattle.tag_store.proofs.StoreLemmas.{IsStore-also, out_adds, tag-span, tags_in-span}
use Rattle.buffer_cache.specs.Cached.{HasNoMark}
use Rattle.tag_store.proofs.tags.Tags.get.Goals as goal

pub read_span-requires-clause-span : goal.read_span-requires-clause-span
read_span-requires-clause-span g c =
    let is = subst (λ (s : Store). IsStore s (g.D.Disk.identity c.args.disk.now) (g.D.Disk.moments c.args.disk.now)) (sym c.self.view_is) c.requires.store in
    let low = subst (λ (s : Store). c.args.block < s.geometry.blocks) (sym c.self.view_is) c.requires.block in
    let size : c.shape-size.result.tag ≡ c.self.inside.geometry.shape.tag_size = ap (λ (s : Shape). s.tag_size) c.shape-size.ensures.shape in
    rw c.tag_at-at.ensures (tag-span c.self.inside.geometry _ c.args.block _ is.geometry low (length-take-le c.shape-size.result.tag _ (omega (arith, c.shape-size.ensures.is_shape.tag.1)) ∙ size))

pub returns-in_err-read_span-clause-store : goal.returns-in_err-read_span-clause-store
returns-in_err-read_span-clause-store g c =
    let is = subst (λ (s : Store). IsStore s (g.D.Disk.identity c.args.disk.now) (g.D.Disk.moments c.args.disk.now)) (sym c.self.view_is) c.requires.store in
    let low = subst (λ (s : Store). c.args.block < s.geometry.blocks) (sym c.self.view_is) c.requires.block in
    let size : c.shape-size.result.tag ≡ c.self.inside.geometry.shape.tag_size = ap (λ (s : Shape). s.tag_size) c.shape-size.ensures.shape in
    IsStore-also c.self.inside.geometry _ _ (sectors_of c.self.inside.cache) (sectors_of c.read_span.new.cache) c.args.block _ low
    (length-take-le c.shape-size.result.tag _ (omega (arith, c.shape-size.ensures.is_shape.tag.1)) ∙ size)
    is c.read_span.ensures.identity c.read_span.ensures.cache (rw c.tag_at-at.ensures at c.read_span.ensures.held)

pub returns-in_err-read_span-clause-moments : goal.returns-in_err-read_span-clause-moments
returns-in_err-read_span-clause-moments g c =
    let is = subst (λ (s : Store). IsStore s (g.D.Disk.identity c.args.disk.now) (g.D.Disk.moments c.args.disk.now)) (sym c.self.view_is) c.requires.store in
    subst (λ (s : Store). EachSince (OnlyAdds (IsOutForTag c.args.block s)) (g.D.Disk.moments c.args.disk.now) (g.D.Disk.moments c.read_span.new.disk)) c.self.view_is
    (out_adds (record { geometry = c.self.inside.geometry; sectors = sectors_of c.self.inside.cache }) _ c.args.block _ is
    (length-take-le c.shape-size.result.tag _ (omega (arith, c.shape-size.ensures.is_shape.tag.1)) ∙ ap (λ (s : Shape). s.tag_size) c.shape-size.ensures.shape)
    (rw c.tag_at-at.ensures at c.read_span.ensures.moments))

pub returns-clause-tag : goal.returns-clause-tag
returns-clause-tag g c content told =
    let size : c.shape-size.result.tag ≡ c.self.inside.geometry.shape.tag_size = ap (λ (s : Shape). s.tag_size) c.shape-size.ensures.shape in
    let kept : length c.read_span.new.out ≡ c.shape-size.result.tag =
    c.read_span.auto.out ∙ length-take-le c.shape-size.result.tag _ (omega (arith, c.shape-size.ensures.is_shape.tag.1)) in
    let read : c.read_span.new.out ≡ span_of c.tag_at-at.result.sector c.tag_at-at.result.byte c.self.inside.geometry.shape.tag_size (cached (sectors_of c.self.inside.cache) content) =
    c.in_ok-read_span.ensures.read content told
    ∙ ap (λ (n : ℕ). span_of c.tag_at-at.result.sector c.tag_at-at.result.byte n (cached (sectors_of c.self.inside.cache) content)) (length-take-le c.shape-size.result.tag _ (omega (arith, c.shape-size.ensures.is_shape.tag.1)) ∙ size) in
    subst (λ (s : Store). c.from_bytes.result ≡ tags_in s.geometry (given s content) c.args.block) c.self.view_is
    (c.from_bytes.ensures
    ∙ take-append-le c.shape-size.result.tag c.read_span.new.out _ (omega (arith, kept)) ∙ take_all c.shape-size.result.tag c.read_span.new.out (omega (arith, kept))
    ∙ (rw c.tag_at-at.ensures at read) ∙ sym (tags_in-span c.self.inside.geometry (cached (sectors_of c.self.inside.cache) content) c.args.block))

pub returns-clause-store : goal.returns-clause-store
returns-clause-store g c =
    let is = subst (λ (s : Store). IsStore s (g.D.Disk.identity c.args.disk.now) (g.D.Disk.moments c.args.disk.now)) (sym c.self.view_is) c.requires.store in
    let low = subst (λ (s : Store). c.args.block < s.geometry.blocks) (sym c.self.view_is) c.requires.block in
    let size : c.shape-size.result.tag ≡ c.self.inside.geometry.shape.tag_size = ap (λ (s : Shape). s.tag_size) c.shape-size.ensures.shape in
    IsStore-also c.self.inside.geometry _ _ (sectors_of c.self.inside.cache) (sectors_of c.read_span.new.cache) c.args.block _ low
    (length-take-le c.shape-size.result.tag _ (omega (arith, c.shape-size.ensures.is_shape.tag.1)) ∙ size)
    is c.read_span.ensures.identity c.read_span.ensures.cache (rw c.tag_at-at.ensures at c.read_span.ensures.held)

pub returns-clause-moments : goal.returns-clause-moments
returns-clause-moments g c =
    let is = subst (λ (s : Store). IsStore s (g.D.Disk.identity c.args.disk.now) (g.D.Disk.moments c.args.disk.now)) (sym c.self.view_is) c.requires.store in
    subst (λ (s : Store). EachSince (OnlyAdds (IsOutForTag c.args.block s)) (g.D.Disk.moments c.args.disk.now) (g.D.Disk.moments c.read_span.new.disk)) c.self.view_is
    (out_adds (record { geometry = c.self.inside.geometry; sectors = sectors_of c.self.inside.cache }) _ c.args.block _ is
    (length-take-le c.shape-size.result.tag _ (omega (arith, c.shape-size.ensures.is_shape.tag.1)) ∙ ap (λ (s : Shape). s.tag_size) c.shape-size.ensures.shape)
    (rw c.tag_at-at.ensures at c.read_span.ensures.moments))

pub returns-in_err-read_span-clause-unwritten : goal.returns-in_err-read_span-clause-unwritten
returns-in_err-read_span-clause-unwritten g c none = c.read_span.ensures.unwritten (subst (λ (s : Store). HasNoMark s.sectors) (sym c.self.view_is) none)

pub returns-clause-unwritten : goal.returns-clause-unwritten
returns-clause-unwritten g c none = c.read_span.ensures.unwritten (subst (λ (s : Store). HasNoMark s.sectors) (sym c.self.view_is) none)
