-- Why an opening is refused.
use Rattle.sea_top.specs.declared.refusal.Refusal.{Refusal}
use Rattle.sea_top.specs.declared.refusal.Refusal.TheVariants as refusals
use Rattle.sea_top.specs.declared.trail.TrailFault.{TrailFault}
use Rattle.sea_top.specs.declared.trail.TrailFault.TheVariants.{NoMemory, DeviceFault}

abbrev pub refusal_of : TrailFault → Refusal
refusal_of NoMemory = refusals.NoMemory
refusal_of DeviceFault = refusals.DeviceFault
