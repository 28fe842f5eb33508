use Rattle.std.proofs.Common.{arith, ◌≤◌, ap, ◌≡◌, ◌∙◌, subst}
use Rattle.std.proofs.lemmas.Result.{on_ok_weaker}
use Rattle.image_model.specs.Geometry.{Geometry, Shape, data_at}
use Rattle.image_model.proofs.GeometryLemmas.{data_at-inside}
use Rattle.replay.proofs.place_run.PlaceRun.show.Goals as goal

pub shows-requires : goal.shows-requires
shows-requires g c =
    let own = c.args.tags.now.geometry in
    let store = c.requires.store in
    let spb : c.shape.result.spb ≡ own.shape.spb = ap (λ (x : Shape). x.spb) c.shape.ensures.shape ∙ ap (λ (x : Geometry). x.shape.spb) c.requires.geometry in
    let at : c.data_at-at.result ≡ data_at own c.args.block = c.data_at-at.ensures ∙ ap (λ (x : Geometry). data_at x c.args.block) c.requires.geometry in
    let inside = data_at-inside own (g.D.Disk.identity c.args.disk.now).sectors c.args.block store.geometry c.requires.block in
    omega (arith, spb, at, inside.1, store.geometry.device)

pub load-requires-clause-inside : goal.load-requires-clause-inside
load-requires-clause-inside g c =
    let own = c.args.tags.now.geometry in
    let store = c.requires.store in
    let at : c.data_at-at.result ≡ data_at own c.args.block = c.data_at-at.ensures ∙ ap (λ (x : Geometry). data_at x c.args.block) c.requires.geometry in
    let inside = data_at-inside own (g.D.Disk.identity c.args.disk.now).sectors c.args.block store.geometry c.requires.block in
    omega (arith, at, inside.1, store.geometry.spb.0)

pub returns-clause-shown : goal.returns-clause-shown
returns-clause-shown g c = on_ok_weaker c.load.result (λ size.
    let own = c.args.tags.now.geometry in
    let store = c.requires.store in
    let new = c.load.new.self in
    let at : c.data_at-at.result ≡ data_at own c.args.block = c.data_at-at.ensures ∙ ap (λ (x : Geometry). data_at x c.args.block) c.requires.geometry in
    let least : own.shape.spb ≤ c.sectors_from-count.result = subst (λ (x : Geometry). x.shape.spb ≤ c.sectors_from-count.result) c.requires.geometry c.sectors_from-count.ensures.least in
    let inside = data_at-inside own (g.D.Disk.identity c.args.disk.now).sectors c.args.block store.geometry c.requires.block in
    record {
      begins = omega (arith, at, c.load.ensures.first);
      since = omega (arith, at, c.load.ensures.behind);
      ends = omega (arith, at, size, c.load.ensures.first, least, inside.1);
    }) c.load.ensures.size
