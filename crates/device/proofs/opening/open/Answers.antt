use Rattle.std.proofs.Common.{IfOk, sym, subst}
use Rattle.hmac_tag.specs.TagMaker.{key_of}
use Rattle.device.specs.declared.opening.OpenMode.{OpenMode}
use Rattle.device.specs.Opening.{HasNoFault}
use Rattle.device.proofs.opening.open.Goals as goal

pub returns-in-Direct-clause-accepted : goal.returns-in-Direct-clause-accepted
returns-in-Direct-clause-accepted g c =
    subst (λ (m : OpenMode). IfOk c.open_in_direct.result (λ parts. HasNoFault m (key_of c.args.hash) (g.D.Disk.identity c.args.disk.now).sectors
    (g.D.Disk.moments c.args.disk.now))) (sym c.in-Direct.is) c.open_in_direct.ensures.accepted

pub returns-in-Journal-clause-accepted : goal.returns-in-Journal-clause-accepted
returns-in-Journal-clause-accepted g c =
    subst (λ (m : OpenMode). IfOk c.open_in_journal.result (λ parts. HasNoFault m (key_of c.args.hash) (g.D.Disk.identity c.args.disk.now).sectors
    (g.D.Disk.moments c.args.disk.now))) (sym c.in-Journal.is) c.open_in_journal.ensures.accepted

pub returns-in-Bitmap-clause-accepted : goal.returns-in-Bitmap-clause-accepted
returns-in-Bitmap-clause-accepted g c =
    subst (λ (m : OpenMode). IfOk c.open_in_bitmap.result (λ parts. HasNoFault m (key_of c.args.hash) (g.D.Disk.identity c.args.disk.now).sectors
    (g.D.Disk.moments c.args.disk.now))) (sym c.in-Bitmap.is) c.open_in_bitmap.ensures.accepted

pub returns-in-Recovery-clause-accepted : goal.returns-in-Recovery-clause-accepted
returns-in-Recovery-clause-accepted g c =
    subst (λ (m : OpenMode). IfOk c.open_in_recovery.result (λ parts. HasNoFault m (key_of c.args.hash) (g.D.Disk.identity c.args.disk.now).sectors
    (g.D.Disk.moments c.args.disk.now))) (sym c.in-Recovery.is) c.open_in_recovery.ensures.accepted
