use Rattle.device.specs.Device.{IsReady}
use Rattle.device_tests.proofs.chain_tests.serve_on.Given as goal

abbrev pub invariant-loop : goal.invariant-loop
invariant-loop g l = IsReady l.device.condition l.device.parts (g.D.Disk.identity l.device.disk.now) (g.D.Disk.moments l.device.disk.now)
