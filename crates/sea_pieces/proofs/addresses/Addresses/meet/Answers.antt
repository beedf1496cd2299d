use Rattle.std.proofs.Common.{◌≡◌, ℕ, ◌+◌, Option, None, sym, ap, subst, ◌∙◌}
use Rattle.std.specs.Prelude.{unwrap_or}
use Rattle.std.specs.FinMap as map
use Rattle.sea_object.proofs.Lookups.{get_entry, insert_same, one_given}
use Rattle.sea_object.proofs.Order.{length_from}
use Rattle.sea_pieces.specs.Addresses.{AreApart}
use Rattle.sea_pieces.proofs.Apart.{next_apart}
use Rattle.sea_pieces.proofs.addresses.Addresses.meet.Goals as goal

pub returns-in-Some-clause-address : goal.returns-in-Some-clause-address
returns-in-Some-clause-address c =
    ap (λ (o : Option ℕ). unwrap_or o (2 + map.len c.args.self.now)) (c.in-Some.ensures.value ∙ sym (get_entry c.self.inside.addresses.entries c.args.name.now) ∙ ap (λ m. map.get m c.args.name.now) c.self.view_is)

pub returns-in-Some-clause-met : goal.returns-in-Some-clause-met
returns-in-Some-clause-met c =
    sym (insert_same c.args.self.now c.args.name.now c.in-Some.at.now
    (sym (c.in-Some.ensures.value ∙ sym (get_entry c.self.inside.addresses.entries c.args.name.now) ∙ ap (λ m. map.get m c.args.name.now) c.self.view_is)))

pub returns-clause-address : goal.returns-clause-address
returns-clause-address c =
    let absent : map.get c.args.self.now c.args.name.now ≡ None = ap (λ m. map.get m c.args.name.now) (sym c.self.view_is) ∙ get_entry c.self.inside.addresses.entries c.args.name.now ∙ sym c.in_default.ensures.value in
    ap (λ (n : ℕ). 2 + n) (c.len.ensures.len ∙ length_from c.self.inside.addresses.entries c.len.ensures.ordered ∙ ap (λ m. map.len m) c.self.view_is)
    ∙ ap (λ (o : Option ℕ). unwrap_or o (2 + map.len c.args.self.now)) (sym absent)

pub returns-clause-met : goal.returns-clause-met
returns-clause-met c =
    one_given c.self.inside.addresses.entries c.insert.new.self.entries c.in_ok-copy.field-0 (2 + c.len.result) c.in_ok-insert.ensures.updates.0
    ∙ ap (λ n. map.insert (map.from_entries c.self.inside.addresses.entries) n (2 + c.len.result)) c.in_ok-copy.ensures
    ∙ ap (λ m. map.insert m c.args.name.now (2 + c.len.result)) c.self.view_is

pub returns-clause-apart : goal.returns-clause-apart
returns-clause-apart c =
    let m = c.args.self.now in
    let name = c.args.name.now in
    let absent : map.get m name ≡ None = ap (λ m. map.get m name) (sym c.self.view_is) ∙ get_entry c.self.inside.addresses.entries name ∙ sym c.in_default.ensures.value in
    let count : 2 + c.len.result ≡ 2 + map.len m = ap (λ (n : ℕ). 2 + n) (c.len.ensures.len ∙ length_from c.self.inside.addresses.entries c.len.ensures.ordered ∙ ap (λ m. map.len m) c.self.view_is) in
    subst AreApart (sym (returns-clause-met c ∙ ap (map.insert m name) count))
    (next_apart m name (subst AreApart c.self.view_is c.self.invariant) absent)

pub invariant_of-self-2 : goal.invariant_of-self-2
invariant_of-self-2 c = returns-clause-apart c
