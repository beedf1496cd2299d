-- Writing what is planned, one thing after the other.
use Rattle.std.proofs.Common.{◌≡◌, ℕ, ◌+◌, ◌≤◌, List, [], ◌∷◌, ◌++◌, Bool, true, false, ◌≢◌, ◌⊎◌, length, refl, ◌==◌, ◌||◌, Option, Some, None, map, reverse, inl, inr, sym, ap, subst, ◌∙◌, arith}
use Rattle.std.specs.Option.{option_map, IfSome, MatchOption}
use Rattle.std.proofs.lemmas.List.{map-append, reverse-append}
use Rattle.std.proofs.lemmas.List.Sums.{sum_by_push}
use Rattle.sea_base.specs.Space.{Seen, IsKnown, Writes, Places, Amends}
use Rattle.sea_base.specs.Splice.{spliced}
use Rattle.sea_base.specs.Name.{IsName}
use Rattle.sea_base.specs.declared.delta.Delta.{Delta}
use Rattle.std.specs.List.{Contains}
use Rattle.std.proofs.lemmas.Bool.{cases_Bool, eqb-true, eq-eqb, true≢false}
use Rattle.std.proofs.lemmas.List.Elements.{All-contains}
use Rattle.sea_node.proofs.Edits.{entries_after, edited-Some}
use Rattle.sea_node.specs.Entries.{Entry, IsRising, edited, entries_before, entry_put}
use Rattle.sea_node.specs.Node.{IsNode, node_bytes}
use Rattle.sea_base.specs.declared.space.SpaceFault.TheVariants.{NoMemory, DeviceFault, Damaged}
use Rattle.sea_tree.specs.declared.plan.Write.{Write}
use Rattle.sea_tree.specs.declared.plan.Plan.{Plan}
use Rattle.sea_tree.specs.declared.splice.Splice.{Splice}
use Rattle.sea_tree.specs.declared.fault.TreeFault.{TreeFault}
use Rattle.sea_tree.specs.declared.fault.TreeFault.TheVariants.{Space, Broken}
use Rattle.sea_tree.specs.Tree.{NodeAt}
use Rattle.sea_tree.specs.Calls.{IsUnchanged}
use Rattle.sea_tree.specs.Does.{Change, Does, ChangesAtMost, is_among, ArePlaced, SplicesOnce}
use Rattle.sea_tree.specs.Plan.{change_of, changes_of, fills, count_filled, Splices, spliced_before, plan_changes, one_filled, plan_fills, IsWritten}
use Rattle.sea_tree.specs.declared.edit.Edit.{Edit}
use Rattle.sea_tree.specs.declared.edit.Edit.TheVariants.{Pair, Moved}
use Rattle.sea_tree.specs.Form.{IsSpliceOf, IsKept}
use Rattle.sea_tree.proofs.Touched.{among_cases}
use Rattle.sea_tree.proofs.Holding.{Contains-middle}
use Rattle.sea_tree.proofs.MendNear.{put_leaf}
use Rattle.sea_tree.proofs.Doing.{Does-then, Does-write, overlaid-apart, ChangesAtMost-then, ChangesAtMost-write}

pub changes_more : (ws : List Write) (w : Write) → changes_of (ws ++ w ∷ []) ≡ change_of w ∷ changes_of ws
changes_more ws w = ap reverse (map-append change_of ws (w ∷ [])) ∙ reverse-append (map change_of ws) (change_of w ∷ [])

pub does_more : {a b c : Seen} (ws : List Write) (w : Write) → Does (changes_of ws) a b → Does (change_of w ∷ []) b c → Does (changes_of (ws ++ w ∷ [])) a c
does_more {a} {b} {c} ws w first later =
    subst (λ (cs : List Change). Does cs a c) (sym (changes_more ws w)) (Does-then (changes_of ws) (change_of w ∷ []) first later)

pub few_more : {a b c : Seen} (ws : List Write) (w : Write) → ChangesAtMost (count_filled ws) a b → ChangesAtMost (fills w) b c → ChangesAtMost (count_filled (ws ++ w ∷ [])) a c
few_more {a} {b} {c} ws w first later =
    let count : fills w + count_filled ws ≡ count_filled (ws ++ w ∷ []) = omega (arith, sum_by_push fills ws w) in
    subst (λ (n : ℕ). ChangesAtMost n a c) count (ChangesAtMost-then (count_filled ws) (fills w) first later)

-- the address of what is written is among the changes so far, or isn't
pub among_more : (ws : List Write) (w : Write) (q : ℕ) → is_among (changes_of (ws ++ w ∷ [])) q ≡ (q == (change_of w).0 || is_among (changes_of ws) q)
among_more ws w q = ap (λ (cs : List Change). is_among cs q) (changes_more ws w)

-- a splice is made behind what was written
pub splice_last : {a b c : Seen} (ws : List Write) (s : Splice) → Does (changes_of ws) a b → Writes s.at.0 (Some s.block) b c → Does ((s.at.0, Some s.block) ∷ changes_of ws) a c
splice_last ws s first last = Does-then (changes_of ws) ((s.at.0, Some s.block) ∷ []) first (Does-write s.at.0 (Some s.block) last)

pub splice_few : {a b c : Seen} (n : ℕ) (s : Splice) → ChangesAtMost n a b → Writes s.at.0 (Some s.block) b c → ChangesAtMost (n + 1) a c
splice_few {a} {b} {c} n s first last =
    subst (λ (k : ℕ). ChangesAtMost k a c) (omega arith) (ChangesAtMost-then n 1 first (ChangesAtMost-write s.at.0 (Some s.block) last))

pub still_makes : {a b : Seen} (ws : List Write) (s : Splice) → Splices a ws s → Does (changes_of ws) a b → option_map (spliced s.delta.cut s.delta.gone s.delta.put) (b.view s.at.0) ≡ Some s.block
still_makes {a} {b} ws s can done =
    ap (option_map (spliced s.delta.cut s.delta.gone s.delta.put)) (done.view s.at.0 (inr can.known) ∙ overlaid-apart (changes_of ws) a.view s.at.0 can.alone) ∙ can.makes

-- the splice of an edit changes the node that stands there
pub splices_node : (seen : Seen) (ws : List Write) (s : Splice) (level : ℕ) (entries : List Entry) → IsKnown seen s.at.0 → NodeAt seen.view s.at.0 level entries → is_among (changes_of ws) s.at.0 ≡ false → spliced s.delta.cut s.delta.gone s.delta.put (node_bytes level entries) ≡ s.block → Splices seen ws s
splices_node seen ws s level entries known node alone makes = record {
  known = known;
  alone = alone;
  makes =
      ap (option_map (spliced s.delta.cut s.delta.gone s.delta.put)) (node.here ∙ ap Some node.spells.spelled) ∙ ap Some makes;
}

pub nothing_planned : (plan : Plan) → plan.writes ≡ [] → plan.splice ≡ None → plan_changes plan ≡ []
nothing_planned plan writes splice = λ i. spliced_before (splice i) (changes_of (writes i))

pub nothing_filled : (plan : Plan) → plan.writes ≡ [] → plan.splice ≡ None → plan_fills plan ≡ 0
nothing_filled plan writes splice = λ i. count_filled (writes i) + one_filled (splice i)

-- without a splice a plan changes what its writes do
pub unspliced : (s : Option Splice) (after before changes : List Change) → s ≡ None → after ≡ changes ++ before → spliced_before s after ≡ changes ++ spliced_before s before
unspliced s after before changes none e = ap (λ (o : Option Splice). spliced_before o after) none ∙ e ∙ ap (λ (o : Option Splice). changes ++ spliced_before o before) (sym none)

-- ---- faults

-- where reads alone were made nothing has changed
pub read_unchanged : {a b : Seen} → Does [] a b → (fault : TreeFault) → IsUnchanged a b fault
read_unchanged d (Space NoMemory) = tt
read_unchanged d (Space DeviceFault) = d
read_unchanged d (Space (Damaged block kept found)) = d
read_unchanged d (Broken at) = d

pub unchanged_since : {a b : Seen} → Does [] a b → (c : Seen) (fault : TreeFault) → IsUnchanged b c fault → IsUnchanged a c fault
unchanged_since d c (Space NoMemory) e = tt
unchanged_since d c (Space DeviceFault) e = Does-then [] [] d e
unchanged_since d c (Space (Damaged block kept found)) e = Does-then [] [] d e
unchanged_since d c (Broken at) e = Does-then [] [] d e

-- ---- splices

-- what is written one after the other is placed
pub placed_more : {b c : Seen} (ws : List Write) (w : Write) → ArePlaced (changes_of ws) b → ArePlaced (change_of w ∷ []) c → Does (change_of w ∷ []) b c → ArePlaced (changes_of (ws ++ w ∷ [])) c
placed_more {b} {c} ws w before here done q among =
    elim (cases_Bool (is_among (change_of w ∷ []) q)) [
      | inl now ↦ here q now
      | inr not_now ↦ done.splices q not_now ∙ before q (earlier q not_now (sym (among_more ws w q) ∙ among))
    ]
  where
    earlier : (q : ℕ) → (q == (change_of w).0 || false) ≡ false → (q == (change_of w).0 || is_among (changes_of ws) q) ≡ true → is_among (changes_of ws) q ≡ true
    earlier q none both = elim (q == (change_of w).0) as (λ b. (b || false) ≡ false → (b || is_among (changes_of ws) q) ≡ true → is_among (changes_of ws) q ≡ true) [
      | true ↦ λ none both. absurd (true≢false none)
      | false ↦ λ none both. both
    ] none both

pub placed_none : (new : Seen) → ArePlaced [] new
placed_none new q e = absurd (true≢false (sym e))

pub placed_one : {old new : Seen} (at : ℕ) (block : Option (List ℕ)) → Places at block old new → ArePlaced ((at, block) ∷ []) new
placed_one {old} {new} at block p q e = subst (λ (a : ℕ). new.splices a ≡ []) (sym (here (q == at) refl e)) p.splices
  where
    here : (b : Bool) → (q == at) ≡ b → (q == at || false) ≡ true → q ≡ at
    here true is e = eqb-true q at is
    here false is e = absurd (true≢false (sym e ∙ ap (λ (b : Bool). b || false) is))

written_or_not : {old new : Seen} (changes : List Change) → Does changes old new → ArePlaced changes new → (q : ℕ) → (new.splices q ≡ old.splices q) ⊎ (new.splices q ≡ [])
written_or_not changes done placed q = elim (cases_Bool (is_among changes q)) [ inl among ↦ inr (placed q among) | inr apart ↦ inl (done.splices q apart) ]

-- without a splice there is none
pub once_none : {old new : Seen} (changes : List Change) → Does changes old new → ArePlaced changes new → SplicesOnce 1091 old new
once_none {old} {new} changes done placed = record {
  place = 0;
  others = λ q other. written_or_not changes done placed q;
  here = elim (written_or_not changes done placed 0) [ inl same ↦ inl same | inr whole ↦ inr (inl whole) ];
}

-- and with one there is one
pub once_some : {a b c : Seen} (ws : List Write) (s : Splice) → Splices a ws s → Does (changes_of ws) a b → ArePlaced (changes_of ws) b → Amends s.at.0 s.delta s.block b c → SplicesOnce 1091 a c
once_some {a} {b} {c} ws s can done placed amends = record {
  place = s.at.0;
  others = λ q other. elim (written_or_not (changes_of ws) done placed q) [
    | inl same ↦ inl (amends.writes.splices q other ∙ same)
    | inr whole ↦ inr (amends.writes.splices q other ∙ whole)
  ];
  here = inr (inr (s.delta, amends.splices ∙ ap (λ (ds : List Delta). ds ++ s.delta ∷ []) (done.splices s.at.0 can.alone), s.small));
}

-- How the addresses of a plan are written: without a splice whole,
pub written_none : {old new : Seen} (plan : Plan) → plan.splice ≡ None → ArePlaced (changes_of plan.writes) new → IsWritten plan old new
written_none {old} {new} plan none placed = record {
  amended = subst (λ (o : Option Splice). IfSome o (λ s. new.splices s.at.0 ≡ old.splices s.at.0 ++ s.delta ∷ [])) (sym none) tt;
  placed = λ q among other. placed q (subst (λ (o : Option Splice). is_among (spliced_before o (changes_of plan.writes)) q ≡ true) none among);
}

-- and with one all others whole
pub written_some : {a b c : Seen} (plan : Plan) (s : Splice) → plan.splice ≡ Some s → Splices a plan.writes s → Does (changes_of plan.writes) a b → ArePlaced (changes_of plan.writes) b → Amends s.at.0 s.delta s.block b c → IsWritten plan a c
written_some {a} {b} {c} plan s is can done placed amends = record {
  amended = subst (λ (o : Option Splice). IfSome o (λ t. c.splices t.at.0 ≡ a.splices t.at.0 ++ t.delta ∷ [])) (sym is)
      (amends.splices ∙ ap (λ (ds : List Delta). ds ++ s.delta ∷ []) (done.splices s.at.0 can.alone));
  placed = λ q among other.
      let apart : q ≢ s.at.0 = subst (λ (o : Option Splice). IfSome o (λ t. q ≢ t.at.0)) is other in
      elim (among_cases (s.at.0, Some s.block) (changes_of plan.writes) q (subst (λ (o : Option Splice). is_among (spliced_before o (changes_of plan.writes)) q ≡ true) is among)) [
        | inl same ↦ absurd (apart same)
        | inr later ↦ amends.writes.splices q apart ∙ placed q later
      ];
}

-- the first pair of a tree is written whole
pub first_whole : (root : ℕ) (old new : Seen) (plan : Plan) (block : Option (List ℕ)) → plan_changes plan ≡ (root, block) ∷ [] → plan.splice ≡ None → IsWritten plan old new → new.splices root ≡ []
first_whole root old new plan block is none written =
    written.placed root (subst (λ (cs : List Change). is_among cs root ≡ true) (sym is) (ap (λ (b : Bool). b || false) (eq-eqb root root refl)))
    (subst (λ (o : Option Splice). IfSome o (λ s. root ≢ s.at.0)) (sym none) tt)

-- a node that keeps its place and is written whole
pub kept_whole : (at : ℕ) (entries : List Entry) (edit : Edit) (before : List Change) (splice : Option Splice) → splice ≡ None → ((key : List ℕ) (value : Option (List ℕ)) → edit ≡ Pair key value → is_among before at ≡ true) → IsKept at entries edit before splice
kept_whole at entries (Pair key value) before splice none among =
    subst (λ (o : Option Splice). MatchOption o (is_among before at ≡ true) (IsSpliceOf at entries key value)) (sym none) (among key value refl)
kept_whole at entries (Moved from to) before splice none among = none

-- or by its splice
pub kept_spliced : (at : ℕ) (entries : List Entry) (edit : Edit) (key : List ℕ) (value : Option (List ℕ)) (before : List Change) (s : Splice) → edit ≡ Pair key value → IsSpliceOf at entries key value s → IsKept at entries edit before (Some s)
kept_spliced at entries edit key value before s is own = subst (λ (e : Edit). IsKept at entries e before (Some s)) (sym is) own

-- reads before don't matter
pub once_since : {a b c : Seen} → Does [] a b → SplicesOnce 1091 b c → SplicesOnce 1091 a c
once_since {a} {b} {c} reads once = record {
  place = once.place;
  others = λ q other. elim (once.others q other) [ inl same ↦ inl (same ∙ reads.splices q refl) | inr whole ↦ inr whole ];
  here = elim once.here [
    | inl same ↦ inl (same ∙ reads.splices once.place refl)
    | inr (inl whole) ↦ inr (inl whole)
    | inr (inr one) ↦ inr (inr (one.0, one.1 ∙ ap (λ (ds : List Delta). ds ++ one.0 ∷ []) (reads.splices once.place refl), one.2))
  ];
}

-- the bytes of an edit's splice
pub put_small : (level : ℕ) (key : List ℕ) (value : Option (List ℕ)) (entries : List Entry) → IsRising entries → IsNode level (edited key value entries) → length (entry_put key value) ≤ 1091
put_small level key None entries rising node = omega arith
put_small level key (Some value) entries rising node =
    let is = edited-Some key value entries rising in
    let among : Contains (edited key (Some value) entries) (key, value) = subst (λ (es : List Entry). Contains es (key, value)) (sym is) (Contains-middle (entries_before key entries) (key, value) (entries_after key entries)) in
    put_leaf key (Some value) (All-contains (λ (e : Entry). IsName e.0) (edited key (Some value) entries) (key, value) node.keys among) (All-contains (λ (e : Entry). length e.1 ≤ 1024) (edited key (Some value) entries) (key, value) node.values among)
