use Rattle.device_tests.proofs.call_tests.open_device.Goals as goal

pub returns-in-Ok : goal.returns-in-Ok
returns-in-Ok g c = rw (c.in-Ok.ensures.works, c.in-Ok.ensures.leaves.identity) c.in-Ok.ensures.opened.ready
