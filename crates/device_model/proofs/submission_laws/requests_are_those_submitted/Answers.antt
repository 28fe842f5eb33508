use Rattle.device_model.proofs.KeptLemmas.{accepted_law, kept_law}
use Rattle.device_model.proofs.submission_laws.requests_are_those_submitted.Goals as goal

pub returns-clause-accepted : goal.returns-clause-accepted
returns-clause-accepted c = accepted_law

pub returns-clause-kept : goal.returns-clause-kept
returns-clause-kept c = kept_law
