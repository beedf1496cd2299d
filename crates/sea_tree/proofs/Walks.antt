-- What a walk below a node meets, child by child.
use Rattle.std.proofs.Common.{◌≡◌, ◌⊎◌, inl, inr, ℕ, zero, suc, ◌+◌, ◌-◌, ◌^◌, ◌<◌, ◌≤◌, List, [], ◌∷◌, ◌++◌, length, map, min, Option, Some, refl, sym, ap, subst, ◌∙◌, arith, append_assoc, append-nil, length-append}
use Rattle.std.proofs.lemmas.List.{map-append}
use Rattle.std.proofs.Math.Path.{fun_ext}
use Rattle.sea_base.specs.Space.{Store, Seen, IsKnown, IsSound, Agrees, OnlyRead, laid}
use Rattle.sea_base.specs.declared.place.Laddr.{Laddr}
use Rattle.sea_base.proofs.Spaces.{agrees_before, laid-only_read, only_read-trans}
use Rattle.sea_node.specs.Entries.{Entry}
use Rattle.sea_tree.specs.declared.fault.TreeFault.{TreeFault}
use Rattle.sea_tree.specs.declared.fault.TreeFault.TheVariants.{Space, Broken}
use Rattle.sea_tree.specs.declared.walking.Walk.{Walk}
use Rattle.sea_tree.specs.Tree.{Bounds, IsSubtree, EachChild, next_key, child_bounds, IsAddress}
use Rattle.sea_tree.specs.Breaks.{HasNode, IsBroken, Child, BreaksFirst, BreaksUnder}
use Rattle.sea_tree.specs.Place.{Splits, IsPlaceFault}
use Rattle.sea_tree.specs.Subtrees.{AllBelow, Holds, Below}
use Rattle.sea_tree.specs.Walk.{addresses, Adds, IsUnderFault}
use Rattle.sea_tree.proofs.Holding.{AllBelow-append, Holds-node, each_below}
use Rattle.sea_tree.proofs.Frames.{AllBelow-one}
use Rattle.sea_tree.proofs.Paths.{HasNode-same, IsBroken-same, laid_same}

-- reads leave what is laid over a store
pub one_store : {old new : Seen} → OnlyRead old new → (store : Store) → laid new store ≡ laid old store
one_store r store = fun_ext (laid-only_read r store)

-- a count that stands still may be added to in two steps
still : (a b c m : ℕ) → min (min (a + b) m + c) m ≡ min (a + (b + c)) m
still a b c m = omega arith

-- So many pairs were counted below the first entries, from a count on: before the first entry it is the same.
abbrev pub Counts : ℕ → ℕ → ℕ → List Entry → Type 0
Counts index from count pairs = ((index ≡ 0) × (count ≡ from) × (pairs ≡ [])) ⊎ (count ≡ min (from + length pairs) (2 ^ 64 - 1))

counted_more : (a b c d index : ℕ) (ps qs : List Entry) → Counts index a b ps → c ≡ b → d ≡ min (c + length qs) (2 ^ 64 - 1) → d ≡ min (a + length (ps ++ (qs ++ []))) (2 ^ 64 - 1)
counted_more a b c d index ps qs (inl (first, none, empty)) same second =
    second ∙ ap (λ (n : ℕ). min (n + length qs) (2 ^ 64 - 1)) (same ∙ none) ∙ ap (λ (es : List Entry). min (a + length es) (2 ^ 64 - 1)) (sym (append-nil qs) ∙ ap (λ (es : List Entry). es ++ (qs ++ [])) (sym empty))
counted_more a b c d index ps qs (inr counted) same second =
    let long : length (ps ++ (qs ++ [])) ≡ length ps + length qs = length-append ps (qs ++ []) ∙ ap (λ (l : List Entry). length ps + length l) (append-nil qs) in
    second ∙ ap (λ (n : ℕ). min (n + length qs) (2 ^ 64 - 1)) (same ∙ counted) ∙ still a (length ps) (length qs) (2 ^ 64 - 1) ∙ ap (λ (n : ℕ). min (a + n) (2 ^ 64 - 1)) (sym long)

listed_more : (after before : List Laddr) (at : Laddr) → after ≡ before ++ at ∷ [] → map (λ at. at.0) after ≡ map (λ at. at.0) before ++ at.0 ∷ []
listed_more after before at pushed = ap (λ (ns : List Laddr). map (λ at. at.0) ns) pushed ∙ map-append (λ (at : Laddr). at.0) before (at ∷ [])

joined : (a n ns : List ℕ) (at : ℕ) → ((a ++ n) ++ at ∷ []) ++ ns ≡ a ++ (n ++ ((at ∷ ns) ++ []))
joined a n ns at =
    append_assoc (a ++ n) (at ∷ []) ns ∙ append_assoc a n (at ∷ ns) ∙ ap (λ (l : List ℕ). a ++ (n ++ l)) (sym (append-nil (at ∷ ns)))

-- What has been met below the first entries of a node above the leaves.
pub record Passes (level : ℕ) (entries : List Entry) (upper : Option (List ℕ)) (index : ℕ) (old new : Seen) (before after : Walk) : Type 0 where
  pub done : List Entry
  pub rest : List Entry
  pub split : entries ≡ done ++ rest
  pub count : length done ≡ index
  pub pairs : List Entry
  pub nodes : List ℕ
  pub below : (store : Store) → Agrees store new → AllBelow (Holds (laid old store) level) done (next_key rest upper) pairs nodes
  pub counted : Counts index before.pairs after.pairs pairs
  pub listed : addresses after ≡ addresses before ++ nodes

pub passes_none : (level : ℕ) (entries : List Entry) (upper : Option (List ℕ)) (seen : Seen) (walk : Walk) → Passes level entries upper 0 seen seen walk walk
passes_none level entries upper seen walk = record {
  done = [];
  rest = entries;
  split = refl;
  count = refl;
  pairs = [];
  nodes = [];
  below = λ store agrees. (refl, refl);
  counted = inl (refl, refl, refl);
  listed = sym (append-nil (addresses walk));
}

pub passes_all : (level : ℕ) (entries : List Entry) (upper : Option (List ℕ)) (index : ℕ) (old new : Seen) (before after : Walk) → 1 ≤ length entries → length entries ≤ index → Passes level entries upper index old new before after → Adds (suc level) entries upper old new before after
passes_all level entries upper index old new before after some end p = record {
  pairs = p.pairs;
  nodes = p.nodes;
  below = λ store agrees. whole (laid old store) p.rest p.split (omega (arith, end, p.count)) (p.below store agrees);
  counted = counted p.counted;
  listed = p.listed;
}
  where
    counted : Counts index before.pairs after.pairs p.pairs → after.pairs ≡ min (before.pairs + length p.pairs) (2 ^ 64 - 1)
    counted (inl (first, _, _)) = absurd (omega (arith, some, end, first))
    counted (inr is) = is

    whole : (store : Store) (rest : List Entry) → entries ≡ p.done ++ rest → length entries ≤ length p.done → AllBelow (Holds store level) p.done (next_key rest upper) p.pairs p.nodes → AllBelow (Holds store level) entries upper p.pairs p.nodes
    whole store [] split le below = subst (λ (es : List Entry). AllBelow (Holds store level) es upper p.pairs p.nodes) (sym (split ∙ append-nil p.done)) below
    whole store (entry ∷ rest) split le below = absurd (omega (arith, le, ap length split, length-append p.done (entry ∷ rest)))

-- what has been met below a leaf
pub adds_leaf : (entries items : List Entry) (upper : Option (List ℕ)) (seen : Seen) (before after : Walk) → items ≡ entries → after.pairs ≡ min (before.pairs + length items) (2 ^ 64 - 1) → after.nodes ≡ before.nodes → Adds 0 entries upper seen seen before after
adds_leaf entries items upper seen before after are counted same = record {
  pairs = entries;
  nodes = [];
  below = λ store agrees. (refl, refl);
  counted = counted ∙ ap (λ (es : List Entry). min (before.pairs + length es) (2 ^ 64 - 1)) are;
  listed = ap (λ (ns : List Laddr). map (λ at. at.0) ns) same ∙ sym (append-nil (addresses before));
}

-- the child of the next entry, which is read and in its place
pub record Reads (entries : List Entry) (upper : Option (List ℕ)) (index at : ℕ) (bounds : Bounds) : Type 0 where
  pub address : (before after : List Entry) (entry : Entry) → Splits entries index before entry after → IsAddress entry.1 at
  pub bounds_are : (before after : List Entry) (entry : Entry) → Splits entries index before entry after → bounds ≡ child_bounds entry after upper

-- ---- where a walk breaks

pub broken_first : (s : Store) (level at : ℕ) (bounds : Bounds) → IsBroken s level at bounds → BreaksFirst s level at bounds at
broken_first s zero at bounds broken = (refl, broken)
broken_first s (suc level) at bounds broken = inl (refl, broken)

pub under_first : (s : Store) (level at : ℕ) (bounds : Bounds) (es : List Entry) (q : ℕ) → HasNode s level at bounds es → BreaksUnder s level es bounds.upper q → BreaksFirst s level at bounds q
under_first s zero at bounds es q has breaks = absurd breaks
under_first s (suc level) at bounds es q has breaks = inr (es, has, breaks)

-- ---- one child more

module _ (level : ℕ) (entries : List Entry) (upper : Option (List ℕ)) (index : ℕ) (old mid : Seen) (before here : Walk) (p : Passes level entries upper index old mid before here) (within : index < length entries) where
  next_entry : (rest : List Entry) → entries ≡ p.done ++ rest → (entry : Entry) × (after : List Entry) × (rest ≡ entry ∷ after)
  next_entry [] split = absurd (omega (arith, within, p.count, ap length (split ∙ append-nil p.done)))
  next_entry (entry ∷ after) split = (entry, after, refl)

  next : (entry : Entry) × (after : List Entry) × (p.rest ≡ entry ∷ after)
  next = next_entry p.rest p.split

  next_splits : Splits entries index p.done next.0 next.1
  next_splits = record { split = p.split ∙ ap (λ (r : List Entry). p.done ++ r) next.2; count = p.count }

  module _ (at : ℕ) (bounds : Bounds) (reads : Reads entries upper index at bounds) where
    bounds_are : bounds ≡ child_bounds next.0 next.1 upper
    bounds_are = reads.bounds_are p.done next.1 next.0 next_splits

    child_is : Child entries upper p.done next.1 at bounds
    child_is = record { entry = next.0; split = next_splits.split; address = reads.address p.done next.1 next.0 next_splits; bounds_are = bounds_are }

    before_next : (s : Store) → AllBelow (Holds s level) p.done (next_key p.rest upper) p.pairs p.nodes → AllBelow (Holds s level) p.done (Some next.0.0) p.pairs p.nodes
    before_next s below = subst (λ (r : List Entry). AllBelow (Holds s level) p.done (next_key r upper) p.pairs p.nodes) next.2 below

    -- the children before are whole, and this one breaks
    breaks_here : (s : Store) (q : ℕ) → AllBelow (Holds s level) p.done (next_key p.rest upper) p.pairs p.nodes → BreaksFirst s level at bounds q → BreaksUnder s (suc level) entries upper q
    breaks_here s q below first =
        let whole : EachChild (IsSubtree s level) p.done (Some next.0.0) = each_below s level p.done (Some next.0.0) p.pairs p.nodes (before_next s below) in
        (p.done, next.1, at, bounds, child_is, subst (λ (b : Bounds). EachChild (IsSubtree s level) p.done (Some b.lower)) (sym bounds_are) whole, first)

    module _ (read : Seen) (sound : IsSound read) (first : OnlyRead old mid) (reading : OnlyRead mid read) where
      to_read : OnlyRead old read
      to_read = only_read-trans first reading

      -- the child is none in its place
      pub place_fault : (fault : TreeFault) → IsPlaceFault level at bounds read fault → IsUnderFault (suc level) entries upper old read fault
      place_fault (Space fault) cause = tt
      place_fault (Broken q) (is, known, broken) = λ store agrees.
          let s = laid old store in
          let broken_there = IsBroken-same read read.view s (laid_same old read store to_read sound agrees) level at bounds known broken in
          subst (λ (a : ℕ). BreaksUnder s (suc level) entries upper a) (sym is) (breaks_here s at (p.below store (agrees_before reading agrees)) (broken_first s level at bounds broken_there))

      module _ (es : List Entry) (known : IsKnown read at) (has : HasNode read.view level at bounds es) (new : Seen) (rest : OnlyRead read new) where
        agrees_read : (store : Store) → Agrees store new → Agrees store read
        agrees_read store agrees = agrees_before rest agrees

        has_there : (store : Store) → Agrees store new → HasNode (laid old store) level at bounds es
        has_there store agrees = HasNode-same read read.view (laid old store) (laid_same old read store to_read sound (agrees_read store agrees)) level at bounds es known has

        before_there : (store : Store) → Agrees store new → AllBelow (Holds (laid old store) level) p.done (next_key p.rest upper) p.pairs p.nodes
        before_there store agrees = p.below store (agrees_before reading (agrees_read store agrees))

        -- something below it isn't
        pub below_fault : (fault : TreeFault) → IsUnderFault level es bounds.upper read new fault → IsUnderFault (suc level) entries upper old new fault
        below_fault (Space fault) cause = tt
        below_fault (Broken q) breaks = λ store agrees.
            let under = subst (λ (s : Store). BreaksUnder s level es bounds.upper q.0) (one_store to_read store) (breaks store agrees) in
            breaks_here (laid old store) q.0 (before_there store agrees) (under_first (laid old store) level at bounds es q.0 (has_there store agrees) under)

        -- all below it is in its place
        pub passes_more : (address : Laddr) (pushed after : Walk) → address.0 ≡ at → pushed.pairs ≡ here.pairs → pushed.nodes ≡ here.nodes ++ address ∷ [] → Adds level es bounds.upper read new pushed after → Passes level entries upper (index + 1) old new before after
        unfolding next child_is
        passes_more address pushed after is same_pairs same_nodes adds = record {
          done = p.done ++ next.0 ∷ [];
          rest = next.1;
          split = next_splits.split ∙ sym (append_assoc p.done (next.0 ∷ []) next.1);
          count = omega (arith, p.count, length-append p.done (next.0 ∷ []));
          pairs = p.pairs ++ (adds.pairs ++ []);
          nodes = p.nodes ++ ((at ∷ adds.nodes) ++ []);
          below = λ store agrees.
              let s = laid old store in
              let under : Below s level es bounds.upper adds.pairs adds.nodes = subst (λ (t : Store). Below t level es bounds.upper adds.pairs adds.nodes) (one_store to_read store) (adds.below store agrees) in
              let holds : Holds s level at (child_bounds next.0 next.1 upper) adds.pairs (at ∷ adds.nodes) = subst (λ (b : Bounds). Holds s level at b adds.pairs (at ∷ adds.nodes)) bounds_are (Holds-node s level at bounds es adds.pairs adds.nodes (has_there store agrees) under) in
              let one = AllBelow-one (Holds s level) next.0 [] (next_key next.1 upper) at adds.pairs [] (at ∷ adds.nodes) [] child_is.address holds (refl, refl) in
              AllBelow-append (Holds s level) p.done (next.0 ∷ []) (next_key next.1 upper) p.pairs (adds.pairs ++ []) p.nodes ((at ∷ adds.nodes) ++ []) (before_next s (before_there store agrees)) one;
          counted = inr (counted_more before.pairs here.pairs pushed.pairs after.pairs index p.pairs adds.pairs p.counted same_pairs adds.counted);
          listed = adds.listed ∙ ap (λ (l : List ℕ). l ++ adds.nodes) (listed_more pushed.nodes here.nodes address same_nodes ∙ ap (λ (a : ℕ). addresses here ++ a ∷ []) is ∙ ap (λ (l : List ℕ). l ++ at ∷ []) p.listed) ∙ joined (addresses before) p.nodes adds.nodes at;
        }
