use Rattle.sea_ptree.proofs.relocating.+relocate_below.Given as goal

abbrev pub decreases-relocate_below : goal.decreases-relocate_below
decreases-relocate_below g l = l.level
