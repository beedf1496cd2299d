use Rattle.sea_ptree.proofs.lookup.+slot_below.Given as goal

abbrev pub decreases-slot_below : goal.decreases-slot_below
decreases-slot_below g l = l.level
