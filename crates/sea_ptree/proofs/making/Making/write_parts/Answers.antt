use Rattle.std.proofs.Common.{◌≡◌, ◌/◌, ◌-◌, List, [], ◌∷◌, ◌++◌, length, take, drop, ap, subst, ◌∙◌, arith, inr, length-drop}
use Rattle.std.proofs.lemmas.List.{take_all}
use Rattle.sea_ptree.specs.Making.{Wrote}
use Rattle.sea_ptree.specs.Node.{Entry}
use Rattle.sea_ptree.proofs.making.Making.write_parts.Goals as goal

pub returns-clause-wrote : goal.returns-clause-wrote
returns-clause-wrote c =
    let rest : take (length c.args.entries.now - length c.args.entries.now / 2) (drop (length c.args.entries.now / 2) c.args.entries.now) ≡ drop (length c.args.entries.now / 2) c.args.entries.now = take_all (length c.args.entries.now - length c.args.entries.now / 2) (drop (length c.args.entries.now / 2) c.args.entries.now) (omega (arith, length-drop (length c.args.entries.now / 2) c.args.entries.now)) in
    inr (inr (record {
      first = c.in_ok-front.front;
      second = c.in_ok-back.back;
      mid = c.write-2.new.self;
      many = omega (arith, c.if-entries-le-MOST_ENTRIES.false);
      parts_are = c.in_ok-push-3.ensures.items ∙ ap (λ (xs : List Entry). xs ++ c.in_ok-back.back ∷ []) (c.in_ok-push-2.ensures.items ∙ ap (λ (xs : List Entry). xs ++ c.in_ok-front.front ∷ []) c.new-parts.ensures.items);
      front = c.in_ok-front.ensures;
      back = subst (λ (xs : List Entry). Wrote c.write-2.new.self c.write-3.new.self c.args.level xs c.in_ok-back.back) rest c.in_ok-back.ensures;
    }))
