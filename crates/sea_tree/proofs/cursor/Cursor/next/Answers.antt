use Rattle.sea_tree.proofs.Cursors.{last_turn, turn_found, next_reached}
use Rattle.sea_tree.proofs.cursor.Cursor.next.Goals as goal

pub go_down-requires-clause-found : goal.go_down-requires-clause-found
go_down-requires-clause-found g c =
    let held = last_turn (g.S.Space.seen c.args.space.now) c.args.self.root.0 c.args.self.turns.items c.pop.new.self.items c.in-Some.turn c.args.self.upper c.unwrap-key.result c.in-Some.ensures.items c.unwrap-key.ensures c.requires.path.3.turns in
    let told = rw c.in-Some-2.is at c.in_ok-lookup.ensures.some in
    turn_found (g.S.Space.seen c.args.space.now) c.args.self.root.0 c.unwrap-key.result c.in-Some.turn c.in-Some-2.lookup told.0 held told.1 told.2

pub returns-clause-next : goal.returns-clause-next
returns-clause-next g c key path known stands =
    next_reached (g.S.Space.seen c.args.space.now) (g.S.Space.seen c.go_down.new.space) c.args.self.root.0 key c.unwrap-key.result path c.args.self c.in_ok-next.next c.go_down.ensures.reads c.unwrap-key.ensures known stands c.in_ok-next.ensures.leaf
