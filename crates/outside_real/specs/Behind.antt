-- What of the runtime is behind an object.
use Rattle.std.specs.Prelude.{Option}
use Rattle.outside_real.specs.declared.calls.StdCalls.{StdCalls}
use Rattle.outside_real.specs.declared.clock.HostClock.{HostClock}
use Rattle.outside_real.specs.declared.entropy.OsEntropy.{OsEntropy}

-- the runtime whose files they open
abbrev pub files_of : {R L : Type 0} → StdCalls R L → R
files_of calls = calls.rt

-- the random device, once it is open
abbrev pub device_of : {R L F D : Type 0} → OsEntropy R L F D → Option F
device_of entropy = entropy.device

-- the runtime whose clock it is
abbrev pub clock_of : {R : Type 0} → HostClock R → R
clock_of clock = clock.rt
