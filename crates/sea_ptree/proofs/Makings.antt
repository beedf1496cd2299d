-- What is written, told of the making that it comes to.
use Rattle.std.proofs.Common.{◌≡◌, ℕ, zero, suc, ◌+◌, ◌≤◌, List, [], ◌∷◌, ◌++◌, length, get_or, refl, sym, ap, subst, ◌∙◌, arith, append_assoc, append-nil, length-append}
use Rattle.std.proofs.lemmas.List.{map-append}
use Rattle.sea_base.specs.declared.place.Paddr.{Paddr}
use Rattle.sea_ptree.specs.declared.making.Making.{Making}
use Rattle.sea_ptree.specs.Blocks.{Image}
use Rattle.sea_ptree.specs.Fresh.{HasBlocks, places_from, times, numbers}
use Rattle.sea_ptree.specs.Making.{Took, Wrote, Onward}
use Rattle.sea_ptree.specs.Node.{Entry, node_bytes}
use Rattle.sea_ptree.specs.Rebuilding.{Exchanges, fresh_places}
use Rattle.sea_ptree.specs.Tree.{least_key}

pub first_key : (es : List Entry) (d : Entry) → 1 ≤ length es → (get_or es 0 d).0 ≡ least_key es
first_key [] d some = absurd (omega arith)
first_key (e ∷ es) d some = refl

-- ---- how often places are named

pub times-append : (at : ℕ) (ps qs : List ℕ) → times at (ps ++ qs) ≡ times at ps + times at qs
times-append at [] qs = omega arith
times-append at (p ∷ ps) qs = omega (arith, times-append at ps qs)

pub from_more : (at count : ℕ) → places_from at (suc count) ≡ places_from at count ++ (at + count) ∷ []
from_more at zero = ap (λ n. n ∷ []) (omega arith)
from_more at (suc count) = ap (λ (ps : List ℕ). at ∷ ps) (from_more (at + 1) count ∙ ap (λ n. places_from (at + 1) count ++ n ∷ []) (omega arith))

-- ---- blocks from a place on

pub has_front : (image : Image) (at : ℕ) (xs ys : List (List ℕ)) → HasBlocks image at (xs ++ ys) → HasBlocks image at xs
has_front image at [] ys has = tt
has_front image at (x ∷ xs) ys has = (has.0, has_front image (at + 1) xs ys has.1)

pub has_last : (image : Image) (at : ℕ) (xs : List (List ℕ)) (b : List ℕ) → HasBlocks image at (xs ++ b ∷ []) → image (at + length xs) ≡ b
has_last image at [] b has = let e : at + 0 ≡ at = omega arith in ap image e ∙ has.0
has_last image at (x ∷ xs) b has = let e : at + length (x ∷ xs) ≡ (at + 1) + length xs = omega arith in ap image e ∙ has_last image (at + 1) xs b has.1

-- ---- one step after the other

pub onward_by : (a b c : Making) → Onward a b → Onward b c → Onward a c
onward_by a b c first second = record {
  kind = second.kind ∙ first.kind;
  place = second.place ∙ first.place;
  more = first.more ++ second.more;
  nodes = second.nodes ∙ ap (λ (ns : List (List ℕ)). ns ++ second.more) first.nodes ∙ append_assoc a.nodes.items first.more second.more;
}

pub took_onward : (old new : Making) (at : Paddr) → Took old new at → Onward old new
took_onward old new at took = record { kind = took.kind; place = took.place; more = []; nodes = took.nodes ∙ sym (append-nil old.nodes.items) }

pub wrote_onward : (old new : Making) (level : ℕ) (es : List Entry) (e : Entry) → Wrote old new level es e → Onward old new
wrote_onward old new level es e wrote = record { kind = wrote.kind; place = wrote.place; more = node_bytes old.kind level es ∷ []; nodes = wrote.nodes }

-- an image that has all that was made has what was made before
pub has_before : (old new : Making) (image : Image) (place : ℕ) → Onward old new → HasBlocks image place new.nodes.items → HasBlocks image place old.nodes.items
has_before old new image place onward has = has_front image place old.nodes.items onward.more (subst (HasBlocks image place) onward.nodes has)

-- and the node that was written last
pub has_written : (old new : Making) (image : Image) (place level : ℕ) (es : List Entry) (e : Entry) → Wrote old new level es e → place ≡ old.place → HasBlocks image place new.nodes.items → image e.1.at.0 ≡ node_bytes old.kind level es
has_written old new image place level es e wrote same has =
    let at : e.1.at.0 ≡ place + length old.nodes.items = omega (arith, wrote.at, same) in
    ap image at ∙ has_last image place old.nodes.items (node_bytes old.kind level es) (subst (HasBlocks image place) wrote.nodes has)

-- ---- old nodes and fresh ones, in balance

numbers_more : (old new : Making) (at : Paddr) (q : ℕ) → new.dead.items ≡ old.dead.items ++ at ∷ [] → times q (numbers new.dead.items) ≡ times q (numbers old.dead.items) + times q (at.0 ∷ [])
numbers_more old new at q is =
    ap (λ (ds : List Paddr). times q (numbers ds)) is ∙ ap (times q) (map-append (λ (p : Paddr). p.0) old.dead.items (at ∷ [])) ∙ times-append q (numbers old.dead.items) (at.0 ∷ [])

same_fresh : (old new : Making) (q : ℕ) → new.place ≡ old.place → new.nodes.items ≡ old.nodes.items → times q (fresh_places new) ≡ times q (fresh_places old)
same_fresh old new q place nodes = λ i. times q (places_from (place i) (length (nodes i)))

more_fresh : (old new : Making) (level : ℕ) (es : List Entry) (e : Entry) (q : ℕ) → Wrote old new level es e → times q (fresh_places new) ≡ times q (fresh_places old) + times q (e.1.at.0 ∷ [])
more_fresh old new level es e q wrote =
    let count : length new.nodes.items ≡ suc (length old.nodes.items) = omega (arith, ap length wrote.nodes, length-append old.nodes.items (node_bytes old.kind level es ∷ [])) in
    (λ i. times q (places_from (wrote.place i) (count i))) ∙ ap (times q) (from_more old.place (length old.nodes.items)) ∙ times-append q (fresh_places old) ((old.place + length old.nodes.items) ∷ [])
    ∙ ap (λ n. times q (fresh_places old) + times q (n ∷ [])) (sym wrote.at)

pub took_exchanges : (old new : Making) (at : Paddr) (ps : List ℕ) → Took old new at → Exchanges old new (at.0 ∷ ps) ps
took_exchanges old new at ps took = record {
  balance = λ q. omega (arith, numbers_more old new at q took.dead, same_fresh old new q took.place took.nodes);
  dead = λ q. omega (arith, numbers_more old new at q took.dead);
}

pub wrote_exchanges : (first old new : Making) (level : ℕ) (es : List Entry) (e : Entry) (was is : List ℕ) → Wrote old new level es e → Exchanges first old was is → Exchanges first new was (e.1.at.0 ∷ is)
wrote_exchanges first old new level es e was is wrote before = record {
  balance = λ q. omega (arith, before.balance q, more_fresh old new level es e q wrote, ap (λ (ds : List Paddr). times q (numbers ds)) wrote.dead);
  dead = λ q. omega (arith, before.dead q, ap (λ (ds : List Paddr). times q (numbers ds)) wrote.dead);
}

-- with other nodes around
pub exchanges_within : (old new : Making) (bs was is cs : List ℕ) → Exchanges old new was is → Exchanges old new (bs ++ (was ++ cs)) (bs ++ (is ++ cs))
exchanges_within old new bs was is cs inner = record {
  balance = λ q. omega (arith, inner.balance q, times-append q bs (was ++ cs), times-append q was cs, times-append q bs (is ++ cs), times-append q is cs);
  dead = λ q. omega (arith, inner.dead q, times-append q bs (was ++ cs), times-append q was cs);
}

-- one exchange after the other
pub exchanges_by : (a b c : Making) (was is was' is' : List ℕ) → Exchanges a b was is → Exchanges b c was' is' → Exchanges a c (was ++ was') (is ++ is')
exchanges_by a b c was is was' is' first second = record {
  balance = λ q. omega (arith, first.balance q, second.balance q, times-append q was was', times-append q is is');
  dead = λ q. omega (arith, first.dead q, second.dead q, times-append q was was');
}

-- in any order
pub exchanges_turned : (a b : Making) (was was' is is' : List ℕ) → Exchanges a b (was ++ was') (is ++ is') → Exchanges a b (was' ++ was) (is' ++ is)
exchanges_turned a b was was' is is' ex = record {
  balance = λ q. omega (arith, ex.balance q, times-append q was was', times-append q is is', times-append q was' was, times-append q is' is);
  dead = λ q. omega (arith, ex.dead q, times-append q was was', times-append q was' was);
}

-- the same places by other words
pub exchanges_as : (a b : Making) (was was' is is' : List ℕ) → was ≡ was' → is ≡ is' → Exchanges a b was is → Exchanges a b was' is'
exchanges_as a b was was' is is' p q ex = subst (λ (xs : List ℕ). Exchanges a b xs is') p (subst (λ (xs : List ℕ). Exchanges a b was xs) q ex)
