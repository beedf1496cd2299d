use Rattle.std.proofs.Common.{sym, ◌∙◌}
use Rattle.std.proofs.lemmas.Slice.Eq.{bytes_eq-Decides}
use Rattle.std.proofs.lemmas.Bool.{false≢true}
use Rattle.sea_tree.proofs.Lookups.{value_there, value_elsewhere, value_nowhere}
use Rattle.sea_tree.proofs.lookup.value_of.Goals as goal
use Rattle.sea_tree.proofs.lookup.value_of.Goals.{in_default-via-in-Some+else-eq, in_default-via-in_default}

pub returns-in-Some : goal.returns-in-Some
returns-in-Some c es rising tells =
    let same = (bytes_eq-Decides c.in-Some.at c.args.key.now).0 (sym c.eq.ensures ∙ c.if-eq.true) in
    value_there c.args.key.now es c.args.lookup rising tells (c.in-Some.at, c.in-Some.value) c.in-Some.is same

pub returns : goal.returns
returns c es rising tells = elim c.in_default.branch [
  | in_default-via-in-Some+else-eq w ↦
      value_elsewhere c.args.key.now es c.args.lookup rising tells (w.in-Some.at, w.in-Some.value) w.in-Some.is (λ same. false≢true (sym w.if-eq.false ∙ w.eq.ensures ∙ (bytes_eq-Decides w.in-Some.at c.args.key.now).1 same))
  | in_default-via-in_default w ↦ value_nowhere c.args.key.now es c.args.lookup rising tells w.in_default.is
]
