use Rattle.std.proofs.Common.{◌+◌, length, Err, refl, sym, ◌∙◌, ap, subst, arith}
use Rattle.std.proofs.lemmas.Result.{err_from_is_err_and}
use Rattle.nbd_model.specs.Session.{take_piece}
use Rattle.nbd_flight.specs.declared.stop.Stop.{Stop}
use Rattle.nbd_flight.specs.Deeds.{HasStopped, Scene, behind, scene_of}
use Rattle.nbd_flight.specs.Rounds.{moment_of}
use Rattle.nbd_flight.proofs.CauseLemmas.{causes_behind, causes_none, if_err_of}
use Rattle.nbd_flight.proofs.StaysLemmas.{stays_then}
use Rattle.nbd_incoming.specs.Taking.{asks_in}
use Rattle.nbd_session.specs.Piece.{ForWay}
use Rattle.nbd_session.proofs.FitLemmas.{is_for, stays_more}
use Rattle.nbd_session.proofs.PieceLemmas.{piece_taken, piece_untaken}
use Rattle.nbd_session.proofs.taking.serve_piece.Goals as goal

pub returns-in_err-end-clause-stopped : goal.returns-in_err-end-clause-stopped
returns-in_err-end-clause-stopped g c =
    let old : Scene = scene_of g.D.Disk.moments g.O.Sink.held c.args.device.now.parts c.args.device.now.disk.now c.args.sink.now in
    let new : Scene = scene_of g.D.Disk.moments g.O.Sink.held c.take_piece.new.device.parts c.take_piece.new.device.disk.now c.take_piece.new.sink in
    let P : Stop → Type 0 = λ stop. ForWay c.args.flight.now c.args.incoming.now old
    (λ w m coming. HasStopped w (take_piece w.format m (asks_in c.args.incoming.now.splitter coming c.args.piece.now).asked).deeds stop old new) in
    let p = err_from_is_err_and c.from_residual.result c.from_residual.ensures.1 in
    if_err_of P c.from_residual.result p.0 p.1 (subst P (sym p.2) c.in_err-end.ensures.stopped)

pub returns-in_err-end-clause-cause : goal.returns-in_err-end-clause-cause
returns-in_err-end-clause-cause g c =
    let p = err_from_is_err_and c.from_residual.result c.from_residual.ensures.1 in
    causes_behind c.take_piece.result c.from_residual.result p.0 (c.in_err-end.was ∙ ap Err (sym p.2)) p.1 _ _ _ _ _ _ refl refl c.take_piece.ensures.cause

pub returns-in_err-until-clause-stopped : goal.returns-in_err-until-clause-stopped
returns-in_err-until-clause-stopped g c =
    let old : Scene = scene_of g.D.Disk.moments g.O.Sink.held c.args.device.now.parts c.args.device.now.disk.now c.args.sink.now in
    let mid : Scene = scene_of g.D.Disk.moments g.O.Sink.held c.take_piece.new.device.parts c.take_piece.new.device.disk.now c.take_piece.new.sink in
    let new : Scene = scene_of g.D.Disk.moments g.O.Sink.held c.until.new.device.parts c.until.new.device.disk.now c.until.new.sink in
    let x = c.args.flight.now in
    let y = c.take_piece.new.flight in
    let P : Stop → Type 0 = λ stop. ForWay x c.args.incoming.now old
    (λ w m coming. HasStopped w (take_piece w.format m (asks_in c.args.incoming.now.splitter coming c.args.piece.now).asked).deeds stop old new) in
    let p = err_from_is_err_and c.from_residual-in_err-until.result c.from_residual-in_err-until.ensures.1 in
    if_err_of P c.from_residual-in_err-until.result p.0 p.1 (subst P (sym p.2) (λ w is flying are taken way coming keeps.
    let both = c.in_ok-end.ensures.asked w is flying are taken way coming keeps in
    let has = both.0 in
    piece_untaken w (moment_of w flying taken) (asks_in c.args.incoming.now.splitter coming c.args.piece.now).asked x y old mid has _ new
    (c.in_err-until.ensures.stopped (behind w has.part.deeds) has.made.done.run.device has.part.behind.flying has.made.flying has.part.behind.taken)))

pub returns-in_err-until-clause-cause : goal.returns-in_err-until-clause-cause
returns-in_err-until-clause-cause g c =
    let first = c.in_ok-end.ensures.cause in
    let p = err_from_is_err_and c.from_residual-in_err-until.result c.from_residual-in_err-until.ensures.1 in
    causes_behind c.until.result c.from_residual-in_err-until.result p.0 (c.in_err-until.was ∙ ap Err (sym p.2)) p.1 _ _ _ _ _ _
    (first.disk_passed (λ e. cc)) (first.sink_passed (λ e. cc)) c.until.ensures.cause

pub returns-clause-taken : goal.returns-clause-taken
returns-clause-taken g c w is flying are taken way coming keeps =
    let old : Scene = scene_of g.D.Disk.moments g.O.Sink.held c.args.device.now.parts c.args.device.now.disk.now c.args.sink.now in
    let mid : Scene = scene_of g.D.Disk.moments g.O.Sink.held c.take_piece.new.device.parts c.take_piece.new.device.disk.now c.take_piece.new.sink in
    let new : Scene = scene_of g.D.Disk.moments g.O.Sink.held c.until.new.device.parts c.until.new.device.disk.now c.until.new.sink in
    let both = c.in_ok-end.ensures.asked w is flying are taken way coming keeps in
    let has = both.0 in (
      piece_taken w (moment_of w flying taken) (asks_in c.args.incoming.now.splitter coming c.args.piece.now).asked c.args.flight.now c.take_piece.new.flight old mid has c.until.new.flight new
          (c.in_ok-until.ensures.ran (behind w has.part.deeds) has.made.done.run.device has.part.behind.flying has.made.flying has.part.behind.taken),
      both.1,
    )

pub returns-clause-cause : goal.returns-clause-cause
returns-clause-cause g c =
    let first = c.in_ok-end.ensures.cause in
    let second = c.in_ok-until.ensures.cause in
    causes_none _ _ _ _ _ (second.disk_passed (λ e. cc) ∙ first.disk_passed (λ e. cc)) (second.sink_passed (λ e. cc) ∙ first.sink_passed (λ e. cc))

pub returns-clause-stays : goal.returns-clause-stays
returns-clause-stays g c =
    let most = length c.args.piece.now in
    stays_more g.D.Disk.identity g.D.Disk.moments (most + 0) most c.until.new.device.condition c.args.device.now.parts c.until.new.device.parts c.until.new.device.disk.now c.until.new.flight (omega arith)
    (stays_then g.D.Disk.identity g.D.Disk.moments most 0 c.take_piece.new.device.condition c.until.new.device.condition c.args.device.now.parts c.take_piece.new.device.parts c.until.new.device.parts
    c.take_piece.new.device.disk.now c.until.new.device.disk.now c.take_piece.new.flight c.until.new.flight c.in_ok-end.ensures.stays c.in_ok-until.ensures.stays)

pub returns-clause-left : goal.returns-clause-left
returns-clause-left g c none =
    let fit = c.take_piece.ensures.left (c.in_ok-end.was ∙ none) in
    let stays = c.in_ok-until.ensures.stays in
    is_for c.take_piece.new.incoming c.take_piece.new.incoming c.take_piece.new.device.parts.common.slots c.until.new.device.parts.common.slots fit refl refl stays.blocks stays.block_size fit.coming fit.keeps
