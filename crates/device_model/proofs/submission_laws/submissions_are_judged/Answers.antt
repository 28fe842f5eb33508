use Rattle.device_model.proofs.SubmissionLemmas.{ticket_law, refused_law}
use Rattle.device_model.proofs.submission_laws.submissions_are_judged.Goals as goal

pub returns-clause-ticket : goal.returns-clause-ticket
returns-clause-ticket c = ticket_law

pub returns-clause-refused : goal.returns-clause-refused
returns-clause-refused c = refused_law
