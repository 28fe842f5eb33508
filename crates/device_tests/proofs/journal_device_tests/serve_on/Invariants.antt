use Rattle.journal_device.specs.Device.{IsReady}
use Rattle.device_tests.proofs.journal_device_tests.serve_on.Given as goal

abbrev pub invariant-loop-count : goal.invariant-loop-count
invariant-loop-count g l = IsReady l.condition l.device.parts l.device.state (g.D.Disk.identity l.disk) (g.D.Disk.moments l.disk)
