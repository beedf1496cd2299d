use Rattle.sea_base.proofs.Calling.{call_none, call_then, call_spent}
use Rattle.std.proofs.Common.{None, Some, MatchOption, inl, inr, refl, ◌≡◌, ◌<◌, ◌≤◌, ◌++◌, ◌∷◌, [], List, ℕ, Option, length, take, sym, ap, subst, ◌∙◌, arith}
use Rattle.std.specs.Option.{option_copied}
use Rattle.std.proofs.lemmas.Result.{err_from_is_err_and}
use Rattle.sea_base.proofs.Spaces.{only_read-refl, only_read-trans, agrees_before}
use Rattle.sea_node.specs.Entries.{Entry}
use Rattle.std.specs.List.{All}
use Rattle.std.proofs.lemmas.List.Elements.{All-nil}
use Rattle.sea_tree.specs.Reads.{ReadsPath, ReadsNothing}
use Rattle.sea_tree.specs.Calls.{IsPathFault, pairs_above}
use Rattle.sea_tree.specs.Tree.{Bounds, IsWithin}
use Rattle.sea_tree.specs.Range.{entries_above, pairs_upto, IsAtNext, IsAtLeaf}
use Rattle.sea_tree.proofs.Cursors.{of_path, of_cursor}
use Rattle.sea_tree.proofs.PathSteps.{empty_path}
use Rattle.sea_tree.proofs.RangeSteps.{begin, taken_first, taken_next, taken_more}
use Rattle.sea_tree.proofs.WholePaths.{first_breaks, next_breaks, never, upto_range, range_none, range_last, none_wanted}
use Rattle.sea_tree.proofs.Ranges.{take_all, enough_upto, upto_all}
use Rattle.sea_tree.proofs.Taking.{first_is, none_taken}
use Rattle.sea_tree.proofs.reading.range.Goals as goal

-- ---- at the first leaf

pub returns-in_err-cursor-clause-fault : goal.returns-in_err-cursor-clause-fault
returns-in_err-cursor-clause-fault g c =
    let p = err_from_is_err_and c.from_residual-in_err-cursor.result c.from_residual-in_err-cursor.ensures.1 in
    let first = first_is c.args.after _ c.unwrap_or-first.result (0 ∷ []) c.unwrap_or-first.ensures (ap (λ (b : Bounds). b.lower) c.in_ok-least.ensures) in
    rw (p.1, p.2) (first_breaks c.args.root.0 (begin (option_copied c.args.after)) (g.S.Space.seen c.args.space.now) (g.S.Space.seen c.seek.new.space) c.in_err-cursor.field-0.0
    (subst (λ (key : List ℕ). IsPathFault c.args.root.0 key (g.S.Space.seen c.args.space.now) (g.S.Space.seen c.seek.new.space) c.in_err-cursor.field-0.0) first c.in_err-cursor.ensures.fault))

pub returns-in_default-clause-whole : goal.returns-in_default-clause-whole
returns-in_default-clause-whole g c = record {
  upto = None;
  whole = λ key above within. empty_path (g.S.Space.seen c.args.space.now) (g.S.Space.seen c.seek.new.space) c.args.root.0 key c.in_ok-cursor.ensures.reads (g.met.S.Space.sound c.seek.new.space) c.in_ok-cursor.ensures.known (rw c.in_default.is at c.in_ok-cursor.ensures.none);
  below = λ k d within. tt;
  ends = inl refl;
}

pub returns-in_default-clause-pairs : goal.returns-in_default-clause-pairs
returns-in_default-clause-pairs g c store content meets =
    let nothing = none_taken (g.S.Space.seen c.args.space.now) (g.S.Space.seen c.seek.new.space) c.args.root.0 c.in_ok-cursor.ensures.reads (g.met.S.Space.sound c.seek.new.space) store content meets.agrees meets.content (option_copied c.args.after) c.in_ok-cursor.ensures.known (rw c.in_default.is at c.in_ok-cursor.ensures.none) in
    c.new-found.ensures ∙ sym (take_all c.args.limit [] (omega arith)) ∙ sym (ap (take c.args.limit) nothing)

pub returns-in_default-clause-within : goal.returns-in_default-clause-within
returns-in_default-clause-within g c =
    let first = first_is c.args.after _ c.unwrap_or-first.result (0 ∷ []) c.unwrap_or-first.ensures (ap (λ (b : Bounds). b.lower) c.in_ok-least.ensures) in
    range_none c.args.root.0 (begin (option_copied c.args.after)) c.args.limit c.new-found.result (g.S.Space.seen c.args.space.now) (g.S.Space.seen c.seek.new.space) (omega (arith, c.if-limit-eq0.false)) c.new-found.ensures
    (subst (λ (key : List ℕ). ReadsPath c.args.root.0 key (g.S.Space.seen c.args.space.now) (g.S.Space.seen c.seek.new.space)) first c.in_ok-cursor.ensures.within)

pub leaves-init : goal.leaves-init
leaves-init g c =
    let first = first_is c.args.after _ c.unwrap_or-first.result (0 ∷ []) c.unwrap_or-first.ensures (ap (λ (b : Bounds). b.lower) c.in_ok-least.ensures) in
    let at = subst (λ (key : List ℕ). IsAtLeaf (g.S.Space.seen c.seek.new.space) c.args.root.0 key c.in-Some.cursor) first (rw c.in-Some.is at c.in_ok-cursor.ensures.leaf) in
    let found : c.take_above.new.found ≡ take c.args.limit (c.new-found.result ++ entries_above (option_copied c.args.after) c.in-Some.cursor.leaf.entries) = c.in_ok-take_above.ensures in
    let taken : c.take_above.new.found ≡ take c.args.limit ([] ++ entries_above (option_copied c.args.after) at.path.entries) =
    found ∙ ap (λ (es : List Entry). take c.args.limit (es ++ entries_above (option_copied c.args.after) c.in-Some.cursor.leaf.entries)) c.new-found.ensures ∙ ap (λ (es : List Entry). take c.args.limit ([] ++ entries_above (option_copied c.args.after) es)) at.stands.entries_are in
    let on_path = subst (λ (key : List ℕ). ReadsPath c.args.root.0 key (g.S.Space.seen c.args.space.now) (g.S.Space.seen c.seek.new.space)) first c.in_ok-cursor.ensures.within in
    record {
      path = (at.path, (begin (option_copied c.args.after)), at.known, at.stands, taken_first c.args.root.0 (option_copied c.args.after) c.args.limit c.take_above.new.found (g.S.Space.seen c.args.space.now) (g.S.Space.seen c.seek.new.space) at.path c.in_ok-cursor.ensures.reads (g.met.S.Space.sound c.seek.new.space) (omega (arith, c.if-limit-eq0.false)) at.known taken on_path);
      reads = c.in_ok-cursor.ensures.reads;
      call = c.in_ok-cursor.ensures.call;
    }

-- ---- at the next one

pub next-requires-clause-path : goal.next-requires-clause-path
next-requires-clause-path g c =
    let path = c.leaves.invariant.path in
    let own = of_cursor (g.S.Space.seen c.leaves.space) c.args.root.0 path.1 path.0 c.leaves.cursor path.2 path.3 in
    (path.1, path.0, own.0, own.1)

pub returns-in_err-next-clause-fault : goal.returns-in_err-next-clause-fault
returns-in_err-next-clause-fault g c =
    let p = err_from_is_err_and c.from_residual-in_err-next.result c.from_residual-in_err-next.ensures.1 in
    let before = c.leaves.invariant.path in
    let fault = of_path (λ r u. MatchOption u ⊥ (λ upper. IsPathFault r upper (g.S.Space.seen c.leaves.space) (g.S.Space.seen c.next.new.space) c.in_err-next.field-0.0)) (g.S.Space.seen c.leaves.space) c.args.root.0 before.0 c.leaves.cursor before.3 c.in_err-next.ensures.fault in
    rw (p.1, p.2) (next_breaks c.args.root.0 (begin (option_copied c.args.after)) (g.S.Space.seen c.args.space.now) (g.S.Space.seen c.leaves.space) (g.S.Space.seen c.next.new.space) before.0.bounds.upper c.in_err-next.field-0.0 c.leaves.invariant.reads c.next.ensures.reads before.4.whole before.4.begun fault)

pub returns-in_err-next-clause-reads : goal.returns-in_err-next-clause-reads
returns-in_err-next-clause-reads g c = only_read-trans c.leaves.invariant.reads c.next.ensures.reads

pub returns-in_err-next-clause-call : goal.returns-in_err-next-clause-call
returns-in_err-next-clause-call g c =
    let p = err_from_is_err_and c.from_residual-in_err-next.result c.from_residual-in_err-next.ensures.1 in
    rw (p.1, p.2) (call_then g.S.Space g.met.S.Space.frame c.leaves.invariant.call c.in_err-next.ensures.call)

pub returns-in_err-take_above-2-clause-reads : goal.returns-in_err-take_above-2-clause-reads
returns-in_err-take_above-2-clause-reads g c = only_read-trans c.leaves.invariant.reads c.next.ensures.reads

pub returns-in_err-take_above-2-clause-fault : goal.returns-in_err-take_above-2-clause-fault
returns-in_err-take_above-2-clause-fault g c =
    let p = err_from_is_err_and c.from_residual-in_err-take_above-2.result c.from_residual-in_err-take_above-2.ensures.1 in
    rw (p.1, p.2) tt

pub returns-in_err-take_above-2-clause-call : goal.returns-in_err-take_above-2-clause-call
returns-in_err-take_above-2-clause-call g c =
    let p = err_from_is_err_and c.from_residual-in_err-take_above-2.result c.from_residual-in_err-take_above-2.ensures.1 in
    rw (p.1, p.2) (call_spent g.S.Space (call_then g.S.Space g.met.S.Space.frame c.leaves.invariant.call c.in_ok-next.ensures.call))

pub leaves-preserved : goal.leaves-preserved
leaves-preserved g c =
    let before = c.leaves.invariant.path in
    let own = of_cursor (g.S.Space.seen c.leaves.space) c.args.root.0 before.1 before.0 c.leaves.cursor before.2 before.3 in
    let at = subst (λ (r : ℕ). IsAtNext (g.S.Space.seen c.next.new.space) r before.0 c.in-Some-2.next) before.3.root_is ((rw c.in-Some-2.is at c.in_ok-next.ensures.next) before.1 before.0 own.0 own.1) in
    let few : length c.leaves.found < c.args.limit = omega (arith, ap length c.items.ensures, c.leaves-test.true) in
    let found : c.take_above-in-leaves.new.found ≡ take c.args.limit (c.leaves.found ++ entries_above (option_copied c.args.after) c.in-Some-2.next.leaf.entries) = c.in_ok-take_above-2.ensures in
    let taken = found ∙ ap (λ (es : List Entry). take c.args.limit (c.leaves.found ++ entries_above (option_copied c.args.after) es)) at.stands.entries_are in
    let on_path = of_path (λ r u. MatchOption u (ReadsNothing (g.S.Space.seen c.leaves.space) (g.S.Space.seen c.next.new.space)) (λ upper. ReadsPath r upper (g.S.Space.seen c.leaves.space) (g.S.Space.seen c.next.new.space))) (g.S.Space.seen c.leaves.space) c.args.root.0 before.0 c.leaves.cursor before.3 c.next.ensures.within in
    record {
      path = (at.next, at.is.key, at.is.known, at.stands, taken_next c.args.root.0 (option_copied c.args.after) c.args.limit c.leaves.found c.take_above-in-leaves.new.found (g.S.Space.seen c.args.space.now) (g.S.Space.seen c.leaves.space) (g.S.Space.seen c.next.new.space) before.0 at.next c.leaves.invariant.reads c.next.ensures.reads (g.met.S.Space.sound c.next.new.space) before.4 at.is few taken on_path);
      reads = only_read-trans c.leaves.invariant.reads c.next.ensures.reads;
      call = call_then g.S.Space g.met.S.Space.frame c.leaves.invariant.call c.in_ok-next.ensures.call;
    }

pub leaves-smaller : goal.leaves-smaller
leaves-smaller g c =
    let before = c.leaves.invariant.path in
    let own = of_cursor (g.S.Space.seen c.leaves.space) c.args.root.0 before.1 before.0 c.leaves.cursor before.2 before.3 in
    let at = subst (λ (r : ℕ). IsAtNext (g.S.Space.seen c.next.new.space) r before.0 c.in-Some-2.next) before.3.root_is ((rw c.in-Some-2.is at c.in_ok-next.ensures.next) before.1 before.0 own.0 own.1) in
    let few : length c.leaves.found < c.args.limit = omega (arith, ap length c.items.ensures, c.leaves-test.true) in
    let found : c.take_above-in-leaves.new.found ≡ take c.args.limit (c.leaves.found ++ entries_above (option_copied c.args.after) c.in-Some-2.next.leaf.entries) = c.in_ok-take_above-2.ensures in
    let taken = found ∙ ap (λ (es : List Entry). take c.args.limit (c.leaves.found ++ entries_above (option_copied c.args.after) es)) at.stands.entries_are in
    let more = taken_more c.args.root.0 (option_copied c.args.after) c.args.limit c.leaves.found c.take_above-in-leaves.new.found (g.S.Space.seen c.args.space.now) (g.S.Space.seen c.leaves.space) (g.S.Space.seen c.next.new.space) before.0 at.next c.leaves.invariant.reads c.next.ensures.reads (g.met.S.Space.sound c.next.new.space) before.4 at.is few taken in
    omega (arith, more, few)

-- ---- behind the last leaf

pub returns-in_default-2-clause-whole : goal.returns-in_default-2-clause-whole
returns-in_default-2-clause-whole g c =
    let before = c.leaves.invariant.path in
    let none = rw c.in_default-2.is at c.in_ok-next.ensures.none in
    record {
      upto = before.0.bounds.upper;
      whole = λ key above within store at agrees. before.4.whole key above within store at (agrees_before c.next.ensures.reads agrees);
      below = before.4.within;
      ends = inl (sym before.3.upper_is ∙ none);
    }

pub returns-in_default-2-clause-reads : goal.returns-in_default-2-clause-reads
returns-in_default-2-clause-reads g c = only_read-trans c.leaves.invariant.reads c.next.ensures.reads

pub returns-in_default-2-clause-pairs : goal.returns-in_default-2-clause-pairs
returns-in_default-2-clause-pairs g c store content meets =
    let before = c.leaves.invariant.path in
    let none = sym before.3.upper_is ∙ (rw c.in_default-2.is at c.in_ok-next.ensures.none) in
    before.4.taken store content (agrees_before c.next.ensures.reads meets.agrees) meets.content
    ∙ ap (λ (u : Option (List ℕ)). take c.args.limit (pairs_upto u (option_copied c.args.after) content)) none
    ∙ ap (take c.args.limit) (upto_all (option_copied c.args.after) content)

pub returns-in_default-2-clause-within : goal.returns-in_default-2-clause-within
returns-in_default-2-clause-within g c =
    let before = c.leaves.invariant.path in
    let on_path = of_path (λ r u. MatchOption u (ReadsNothing (g.S.Space.seen c.leaves.space) (g.S.Space.seen c.next.new.space)) (λ upper. ReadsPath r upper (g.S.Space.seen c.leaves.space) (g.S.Space.seen c.next.new.space))) (g.S.Space.seen c.leaves.space) c.args.root.0 before.0 c.leaves.cursor before.3 c.next.ensures.within in
    range_last c.args.root.0 (begin (option_copied c.args.after)) c.args.limit c.leaves.found (g.S.Space.seen c.args.space.now) (g.S.Space.seen c.leaves.space) (g.S.Space.seen c.next.new.space) before.0.bounds.upper c.next.ensures.reads (sym before.3.upper_is ∙ (rw c.in_default-2.is at c.in_ok-next.ensures.none)) before.4.range on_path

pub returns-in_default-2-clause-call : goal.returns-in_default-2-clause-call
returns-in_default-2-clause-call g c = call_then g.S.Space g.met.S.Space.frame c.leaves.invariant.call c.in_ok-next.ensures.call

-- ---- with as many as are wanted

pub returns-clause-whole : goal.returns-clause-whole
returns-clause-whole g c =
    let before = c.leaves.invariant.path in
    let long : length c.leaves.found ≡ c.args.limit = omega (arith, ap length c.items.ensures, c.leaves-test.false, before.4.count) in
    record { upto = before.0.bounds.upper; whole = before.4.whole; below = before.4.within; ends = inr long }

pub returns-clause-pairs : goal.returns-clause-pairs
returns-clause-pairs g c store content meets =
    let before = c.leaves.invariant.path in
    let long : c.args.limit ≤ length c.leaves.found = omega (arith, ap length c.items.ensures, c.leaves-test.false) in
    enough_upto c.args.limit before.0.bounds.upper (option_copied c.args.after) content c.leaves.found (before.4.taken store content meets.agrees meets.content) long

pub returns-clause-within : goal.returns-clause-within
returns-clause-within g c =
    let before = c.leaves.invariant.path in
    upto_range c.args.root.0 (begin (option_copied c.args.after)) c.args.limit c.leaves.found before.0.bounds.upper (g.S.Space.seen c.args.space.now) (g.S.Space.seen c.leaves.space) before.4.range

-- ---- where no pair is wanted

pub returns-then-limit-eq0-clause-pairs : goal.returns-then-limit-eq0-clause-pairs
returns-then-limit-eq0-clause-pairs g c store content meets =
    c.new-found.ensures ∙ sym (none_wanted c.args.limit (pairs_above (option_copied c.args.after) content) (omega (arith, c.if-limit-eq0.true)))

pub returns-then-limit-eq0-clause-whole : goal.returns-then-limit-eq0-clause-whole
returns-then-limit-eq0-clause-whole g c =
    let from : List ℕ = begin (option_copied c.args.after) in record {
      upto = Some from;
      whole = λ key above within. absurd (never from key above within);
      below = subst (All (λ e. IsWithin e.0 (Some from))) (sym c.new-found.ensures) (All-nil (λ (e : Entry). IsWithin e.0 (Some from)));
      ends = inr (ap length c.new-found.ensures ∙ sym c.if-limit-eq0.true);
    }

pub returns-then-limit-eq0-clause-within : goal.returns-then-limit-eq0-clause-within
returns-then-limit-eq0-clause-within g c q = inl refl

pub returns-then-limit-eq0-clause-reads : goal.returns-then-limit-eq0-clause-reads
returns-then-limit-eq0-clause-reads g c = only_read-refl (g.S.Space.seen c.args.space.now)

pub returns-then-limit-eq0-clause-call : goal.returns-then-limit-eq0-clause-call
returns-then-limit-eq0-clause-call g c = call_none g.S.Space g.met.S.Space.frame c.args.space.now c.requires
