use Rattle.std.proofs.Common.{◌≡◌, ◌-◌, ◌++◌, List, length, get_or, take, drop, ap, subst, ◌∙◌, arith, append_assoc, length-drop}
use Rattle.std.proofs.lemmas.List.{take_all}
use Rattle.std.proofs.lemmas.Result.{err_from_is_err_and}
use Rattle.sea_ptree.specs.Mending.{WroteParts}
use Rattle.sea_ptree.specs.Node.{Entry}
use Rattle.sea_ptree.proofs.Makings.{onward_by}
use Rattle.sea_ptree.proofs.Relocations.{next_there}
use Rattle.sea_ptree.proofs.Walks.{next_has}
use Rattle.sea_ptree.proofs.making.Making.settle.Goals as goal

abbrev d : Entry
d = (0, record { at = record { 0 = 0 }; version = record { 0 = 0 }; sum = record { 0 = 0 } })

pub returns-in_err-parts-clause-fault : goal.returns-in_err-parts-clause-fault
returns-in_err-parts-clause-fault g c =
    let p = err_from_is_err_and c.from_residual-in_err-parts.result c.from_residual-in_err-parts.ensures.1 in
    rw (p.1, p.2) (get_or c.args.entries.now c.args.index d, next_has c.args.entries.now c.args.index (get_or c.args.entries.now c.args.index d) (next_there c.args.entries.now c.args.index d c.requires.index), c.in_ok-span.ensures.kept.1)

pub returns-in_err-made-clause-fault : goal.returns-in_err-made-clause-fault
returns-in_err-made-clause-fault g c =
    let p = err_from_is_err_and c.from_residual-in_err-made.result c.from_residual-in_err-made.ensures.1 in
    rw (p.1, p.2) (get_or c.args.entries.now c.args.index d, next_has c.args.entries.now c.args.index (get_or c.args.entries.now c.args.index d) (next_there c.args.entries.now c.args.index d c.requires.index), c.in_ok-span.ensures.kept.1)

pub returns-clause-settled : goal.returns-clause-settled
returns-clause-settled g c told =
    let from = c.in_ok-span.span.from in
    let to = c.in_ok-span.span.to in
    let rest : take (length c.args.entries.now - c.in_ok-span.span.to) (drop c.in_ok-span.span.to c.args.entries.now) ≡ drop c.in_ok-span.span.to c.args.entries.now = take_all (length c.args.entries.now - c.in_ok-span.span.to) (drop c.in_ok-span.span.to c.args.entries.now) (omega (arith, length-drop c.in_ok-span.span.to c.args.entries.now)) in
    let first : c.extend_from_slice.new.self.items ≡ take c.in_ok-span.span.from c.args.entries.now = c.in_ok-extend_from_slice.ensures.items ∙ ap (λ (xs : List Entry). xs ++ take c.in_ok-span.span.from c.args.entries.now) c.in_ok-made.ensures.items in
    record {
      from = c.in_ok-span.span.from;
      to = c.in_ok-span.span.to;
      all = c.in_ok-span.span.entries.items;
      parts = c.in_ok-parts.parts.items;
      mid = c.gather.new.self;
      gathered = c.in_ok-span.ensures.gathered told;
      room = c.in_ok-span.ensures.few;
      written = subst (λ (xs : List Entry). WroteParts c.gather.new.self c.write_parts.new.self c.args.level xs c.in_ok-parts.parts.items) c.deref.ensures.value c.in_ok-parts.ensures.wrote;
      made_is = c.in_ok-extend_from_slice-3.ensures.items
          ∙ ap (λ (xs : List Entry). xs ++ take (length c.args.entries.now - c.in_ok-span.span.to) (drop c.in_ok-span.span.to c.args.entries.now)) (c.in_ok-extend_from_slice-2.ensures.items ∙ (λ i. first i ++ c.deref-2.ensures.value i))
          ∙ append_assoc (take c.in_ok-span.span.from c.args.entries.now) c.in_ok-parts.parts.items (take (length c.args.entries.now - c.in_ok-span.span.to) (drop c.in_ok-span.span.to c.args.entries.now))
          ∙ ap (λ (xs : List Entry). take c.in_ok-span.span.from c.args.entries.now ++ (c.in_ok-parts.parts.items ++ xs)) rest;
      onward = onward_by c.args.self.now c.gather.new.self c.write_parts.new.self c.in_ok-span.ensures.onward c.in_ok-parts.ensures.onward;
    }
