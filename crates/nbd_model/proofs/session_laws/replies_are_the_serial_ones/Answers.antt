use Rattle.nbd_model.proofs.SerialLemmas.{serial_answer_law}
use Rattle.nbd_model.proofs.session_laws.replies_are_the_serial_ones.Goals as goal

pub returns : goal.returns
returns c = serial_answer_law
