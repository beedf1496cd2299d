use Rattle.std.proofs.Common.{◌≡◌, ◌++◌, map, Less, nat_cmp, refl, sym, ap, subst, ◌∙◌}
use Rattle.std.specs.Cmp.{nat_cmp_is}
use Rattle.std.specs.BTreeMap.{is_at}
use Rattle.std.specs.List.Sorted.{IsStrictlySortedBy}
use Rattle.std.specs.Map.{keys_of, lookup}
use Rattle.std.specs.Map.Iter.{deref_pair}
use Rattle.std.proofs.lemmas.Cmp.{nat_cmp_total}
use Rattle.std.proofs.lemmas.List.Elements.{All-push}
use Rattle.std.proofs.lemmas.Map.Iter.{btree_map_turn, iter_end, rest_so_far}
use Rattle.sea_sets.specs.Versions.{Stands}
use Rattle.sea_sets.proofs.Quiet.{all_stand, stands_below, stands_through}
use Rattle.sea_sets.proofs.notes.Notes.first_moved.Goals as goal

pub returns-then-not-self-clause-none : goal.returns-then-not-self-clause-none
returns-then-not-self-clause-none c = c.args.self.now.quiet c.if-not-self.true

pub loop-at-preserved : goal.loop-at-preserved
loop-at-preserved c = All-push (λ entry. entry.1.now.current ≡ entry.1.now.seen) c.loop-at.yielded _ c.loop-at.invariant c.if-has_moved.ensures

pub returns-clause-none : goal.returns-clause-none
returns-clause-none c =
    let all = iter_end deref_pair c.args.self.now.notes.entries c.loop-at.yielded _ c.loop-at.at-iterator _ _
    c.into_iter-at-iterator.ensures.into_iter_gives.0 c.loop-at.yielded_by c.in-None.is c.next.ensures.steps in
    all_stand c.args.self.now.notes.entries (stands_through c.loop-at.yielded _ all.0 c.loop-at.invariant)

pub returns-then-has_moved-clause-some : goal.returns-then-has_moved-clause-some
returns-then-has_moved-clause-some c =
    let given = c.into_iter-at-iterator.ensures.into_iter_gives in
    let cut = sym given.0 ∙ rest_so_far deref_pair c.loop-at.yielded _ c.loop-at.at-iterator c.loop-at.yielded_by
    ∙ ap (λ rest. map deref_pair c.loop-at.yielded ++ rest) c.in-Some.ensures.steps in
    let turn = btree_map_turn deref_pair c.loop-at.yielded _ c.loop-at.at-iterator _ _ (c.in-Some.at, c.in-Some.note)
    c.loop-at.yielded_by c.in-Some.is c.next.ensures.steps nat_cmp_total c.args.self.now.notes given.0 given.5 in
    record {
      noted = turn.1;
      moved = c.if-has_moved.ensures;
      least = λ q below. subst (λ es. Stands (lookup (is_at (nat_cmp q)) es)) (sym cut)
          (stands_below (map deref_pair c.loop-at.yielded) c.next.new.self (c.in-Some.at.now, c.in-Some.note.now)
          (subst (λ es. IsStrictlySortedBy nat_cmp (keys_of es)) cut given.5)
          (stands_through c.loop-at.yielded _ refl c.loop-at.invariant) q (sym (nat_cmp_is q c.in-Some.at.now Less below)));
    }
