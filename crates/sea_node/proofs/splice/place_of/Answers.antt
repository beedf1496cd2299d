use Rattle.std.proofs.Common.{Option, Some, None, sym, ap, subst, arith}
use Rattle.sea_base.proofs.Slices.{differing, equal}
use Rattle.sea_node.specs.declared.reading.Span.{Span}
use Rattle.sea_node.specs.Entries.{size}
use Rattle.sea_node.specs.Reading.{key_in}
use Rattle.sea_node.specs.Lookup.{FindsAt, IsSpanIf}
use Rattle.sea_node.proofs.Places.{place_none, found_own, found_before, span_size}
use Rattle.sea_node.proofs.splice.place_of.Goals as goal

pub returns-in_default-clause-before : goal.returns-in_default-clause-before
returns-in_default-clause-before c = λ es rising passes.
    let key = c.args.key.now in
    let finds : FindsAt c.args.bytes.now key es None c.args.passed.now.next = subst (λ (f : Option Span). FindsAt c.args.bytes.now key es f c.args.passed.now.next) c.in_default.is passes.finds in
    sym (ap size (place_none key es finds.0).0)

pub returns-in_default-clause-size : goal.returns-in_default-clause-size
returns-in_default-clause-size c = λ es rising passes.
    let key = c.args.key.now in
    let finds : FindsAt c.args.bytes.now key es None c.args.passed.now.next = subst (λ (f : Option Span). FindsAt c.args.bytes.now key es f c.args.passed.now.next) c.in_default.is passes.finds in
    sym (ap size (place_none key es finds.0).1)

pub returns-then-ne-clause-before : goal.returns-then-ne-clause-before
returns-then-ne-clause-before c = λ es rising passes.
    let bytes = c.args.bytes.now in
    let key = c.args.key.now in
    let x = c.in-Some.found in
    let finds : FindsAt bytes key es (Some x) c.args.passed.now.next = subst (λ (f : Option Span). FindsAt bytes key es f c.args.passed.now.next) c.in-Some.is passes.finds in
    let is = found_before bytes key es rising x c.args.passed.now.next finds (differing (key_in bytes x) key c.ne.result c.ne.ensures c.if-ne.true) in omega (arith, is.0)

pub returns-then-ne-clause-size : goal.returns-then-ne-clause-size
returns-then-ne-clause-size c = λ es rising passes.
    let bytes = c.args.bytes.now in
    let key = c.args.key.now in
    let x = c.in-Some.found in
    let finds : FindsAt bytes key es (Some x) c.args.passed.now.next = subst (λ (f : Option Span). FindsAt bytes key es f c.args.passed.now.next) c.in-Some.is passes.finds in
    sym (found_before bytes key es rising x c.args.passed.now.next finds (differing (key_in bytes x) key c.ne.result c.ne.ensures c.if-ne.true)).1

pub returns-clause-before : goal.returns-clause-before
returns-clause-before c = λ es rising passes.
    let bytes = c.args.bytes.now in
    let key = c.args.key.now in
    let x = c.in-Some.found in
    let finds : FindsAt bytes key es (Some x) c.args.passed.now.next = subst (λ (f : Option Span). FindsAt bytes key es f c.args.passed.now.next) c.in-Some.is passes.finds in
    let is = found_own bytes key es rising x c.args.passed.now.next finds (equal (key_in bytes x) key c.ne.result c.ne.ensures c.if-ne.false) in
    omega (arith, is.0, span_size bytes x c.requires.block (subst (IsSpanIf bytes) c.in-Some.is c.requires.spans.found_is))

pub returns-clause-size : goal.returns-clause-size
returns-clause-size c = λ es rising passes.
    let bytes = c.args.bytes.now in
    let key = c.args.key.now in
    let x = c.in-Some.found in
    let finds : FindsAt bytes key es (Some x) c.args.passed.now.next = subst (λ (f : Option Span). FindsAt bytes key es f c.args.passed.now.next) c.in-Some.is passes.finds in
    let is = found_own bytes key es rising x c.args.passed.now.next finds (equal (key_in bytes x) key c.ne.result c.ne.ensures c.if-ne.false) in
    omega (arith, is.1, span_size bytes x c.requires.block (subst (IsSpanIf bytes) c.in-Some.is c.requires.spans.found_is))
