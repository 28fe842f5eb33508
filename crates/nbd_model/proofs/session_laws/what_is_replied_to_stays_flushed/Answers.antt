use Rattle.nbd_model.proofs.FlushedLemmas.{flushed_law}
use Rattle.nbd_model.proofs.session_laws.what_is_replied_to_stays_flushed.Goals as goal

pub returns : goal.returns
returns c = flushed_law
