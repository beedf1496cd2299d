-- What a fault of a scan says.
use Rattle.std.specs.Prelude.{ℕ, ◌≤◌, Result, IsErrOf}
use Rattle.sea_base.specs.Faults.{FaultsRose}
use Rattle.sea_trail.specs.declared.fault.ReadFault.{ReadFault}
use Rattle.sea_trail.specs.declared.fault.ReadFault.TheVariants as reads
use Rattle.sea_trail.specs.declared.fault.ScanFault.{ScanFault}
use Rattle.sea_trail.specs.declared.fault.ScanFault.TheVariants as scans

-- the same, of a scan
abbrev pub scan_fault : ReadFault → ScanFault
scan_fault reads.NoMemory = scans.NoMemory
scan_fault reads.DeviceFault = scans.DeviceFault

-- A call blames the device only where the device's count of faults rose, and the count never falls.
pub record BlamesDevice {T E : Type 0} (device_fault : E) (before now : ℕ) (result : Result T E)
    : Type 0 where
  pub later : before ≤ now
  pub device : IsErrOf result device_fault → FaultsRose before now
