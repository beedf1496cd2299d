use Rattle.sea_tree.proofs.Listed.{listed_tree}
use Rattle.std.proofs.Common.{sym, ap, ◌∙◌, length}
use Rattle.std.proofs.lemmas.List.{length-map}
use Rattle.sea_base.specs.declared.place.Laddr.{Laddr}
use Rattle.sea_tree.specs.Walk.{addresses}
use Rattle.sea_tree.proofs.walking.check.Goals as goal

pub returns-clause-whole : goal.returns-clause-whole
returns-clause-whole g c = λ store agrees. (addresses c.in_ok-walk.walk, ap length c.items.ensures ∙ sym (length-map c.in_ok-walk.walk.nodes (λ (at : Laddr). at.0)), c.in_ok-walk.ensures.walked store agrees)

pub returns-clause-within : goal.returns-clause-within
returns-clause-within g c = listed_tree c.args.root.0 c.in_ok-walk.walk.pairs (addresses c.in_ok-walk.walk) (g.S.Space.seen c.args.space.now) (g.S.Space.seen c.walk_tree.new.space) c.in_ok-walk.ensures.walked c.in_ok-walk.ensures.listed
