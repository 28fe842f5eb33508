use Rattle.mirror_core.proofs.mirror.close.Goals as goal

pub returns-clause-first_flushed : goal.returns-clause-first_flushed
returns-clause-first_flushed g c = rw (← c.into_legs-a.ensures.first) c.close_legs.ensures.first_flushed

pub returns-clause-second_flushed : goal.returns-clause-second_flushed
returns-clause-second_flushed g c = rw (← c.into_legs-a.ensures.second) c.close_legs.ensures.second_flushed

pub returns-clause-cause : goal.returns-clause-cause
returns-clause-cause g c = rw (← c.into_legs-a.ensures.first, ← c.into_legs-a.ensures.second) c.close_legs.ensures.cause

pub returns-clause-first_moments : goal.returns-clause-first_moments
returns-clause-first_moments g c = rw (← c.into_legs-a.ensures.first) c.close_legs.ensures.first_moments

pub returns-clause-second_moments : goal.returns-clause-second_moments
returns-clause-second_moments g c = rw (← c.into_legs-a.ensures.second) c.close_legs.ensures.second_moments

pub returns-clause-identity : goal.returns-clause-identity
returns-clause-identity g c = rw (← c.into_legs-a.ensures.first) c.close_legs.ensures.identity

pub returns-clause-second_identity : goal.returns-clause-second_identity
returns-clause-second_identity g c = rw (← c.into_legs-a.ensures.second) c.close_legs.ensures.second_identity
