-- A look-up that goes through the entries of a block, and what it tells of the node that the block spells.
use Rattle.std.proofs.Common.{◌≡◌, ℕ, ◌≤◌, ◌-◌, List, [], ◌∷◌, ◌++◌, length, drop, replicate, Option, refl, sym, ap, subst, ◌∙◌, arith, length-drop, append_assoc}
use Rattle.std.specs.List.{AllByRecursion}
use Rattle.std.proofs.lemmas.List.Elements.{All-from_recursion, recursion_from_All}
use Rattle.sea_base.specs.Name.{IsName}
use Rattle.sea_base.proofs.Slices.{length-slice, zeros_long}
use Rattle.sea_node.specs.declared.reading.Span.{Span}
use Rattle.sea_node.specs.declared.lookup.Passed.{Passed}
use Rattle.sea_node.specs.Entries.{Entry, IsBelow, IsRising, size, entry_bytes, entries_bytes}
use Rattle.sea_node.specs.Node.{IsNode, Spells}
use Rattle.sea_node.specs.Reading.{IsEntry, BeginsAtLevel, BeginsWithEntry, SpansAt, key_in, entry_in}
use Rattle.sea_node.specs.Lookup.{FindsAt, Passes, HasValueOf, IsBegun, IsRead, HasEntry, HasNoEntry, GoesOn, GoesOnNoMore, IsEnough}
use Rattle.sea_node.proofs.Nodes.{same_entry}
use Rattle.sea_node.proofs.Keys.{IsRising-one, IsRising-split}
use Rattle.sea_node.proofs.ReadNodes.{more_read, same_front, ends_clean, room_of, same_level, spelled_entries, node_read, only_read}
use Rattle.sea_node.proofs.Lookups.{rising_more, behind_last, first_still, ends_more}

all_more : (P : Entry → Type 0) (es : List Entry) (e : Entry) → AllByRecursion P es → P e → AllByRecursion P (es ++ e ∷ [])
all_more P [] e all here = (here, tt)
all_more P (x ∷ es) e all here = (all.0, all_more P es e all.1 here)

all_last : (P : Entry → Type 0) (es more : List Entry) (e : Entry) → AllByRecursion P ((es ++ e ∷ []) ++ more) → P e
all_last P [] more e all = all.0
all_last P (x ∷ es) more e all = all_last P es more e all.1

-- an entry that stands in a node of a level has a value for that level
value_of : (level : ℕ) (es more : List Entry) (e : Entry) → IsNode level ((es ++ e ∷ []) ++ more) → HasValueOf level e
value_of level es more e node = λ above.
    all_last (λ (d : Entry). length d.1 ≡ 8) es more e (recursion_from_All (λ (d : Entry). length d.1 ≡ 8) ((es ++ e ∷ []) ++ more) (node.children above).1)

module _ (block : List ℕ) (len : length block ≡ 4096) (level : ℕ) where
  -- ---- the first entry, and one entry more

  pub first_begun : (span : Span) → HasEntry block level 32 span → IsBegun block level span.end (entry_in block span ∷ [])
  first_begun span has =
      let e = entry_in block span in
      let one = more_read (drop 32 block) (drop 32 block) (drop span.end block) [] (e ∷ []) e refl tt refl has.0.1.1 in
      record { all = one.0; values = (has.1, tt); rising = IsRising-one e; read = one.1 }

  pub first_passes : (key : List ℕ) (span : Span) (found next : Option Span) → HasEntry block level 32 span → FindsAt block key (entry_in block span ∷ []) found next
      → Passes block key (entry_in block span ∷ []) (record { first = span; last = span; found = found; next = next })
  first_passes key span found next has finds = record {
    end_is = ends_more block [] (entry_in block span) 32 span.end len (omega arith) refl has.0.1;
    first_is = refl;
    last_is = ([], (entry_in block span).1, refl);
    finds = finds;
  }

  module _ (es : List Entry) (key : List ℕ) (passed : Passed) (begun : IsBegun block level passed.last.end es) (passes : Passes block key es passed) where
    module _ (within : passed.last.end ≤ 4096) (span : Span) (on : GoesOn block level passed.last span) where
      pub rises_on : IsRising (es ++ entry_in block span ∷ [])
      rises_on = rising_more es (entry_in block span) (key_in block passed.last) begun.rising passes.last_is on.1

      pub begun_more : IsBegun block level span.end (es ++ entry_in block span ∷ [])
      begun_more =
          let e = entry_in block span in
          let more = more_read (drop 32 block) (drop passed.last.end block) (drop span.end block) es (es ++ e ∷ []) e refl begun.all begun.read on.0.0.1.1 in
          record { all = more.0; values = all_more (HasValueOf level) es e begun.values on.0.1; rising = rises_on; read = more.1 }

      pub passes_more : (found next : Option Span) → FindsAt block key (es ++ entry_in block span ∷ []) found next
          → Passes block key (es ++ entry_in block span ∷ []) (record { first = passed.first; last = span; found = found; next = next })
      passes_more found next finds = record {
        end_is = ends_more block es (entry_in block span) passed.last.end span.end len within passes.end_is on.0.0.1;
        first_is = first_still es (entry_in block span) (key_in block passed.first) passes.first_is;
        last_is = (es, (entry_in block span).1, refl);
        finds = finds;
      }

    -- where no more entry goes on, and no zeros, the block spells no node
    pub not_whole : BeginsAtLevel block level → GoesOnNoMore block level passed.last → (drop passed.last.end block ≡ replicate (length (drop passed.last.end block)) 0 → ⊥) → (level' : ℕ) (fs : List Entry) → Spells block level' fs → ⊥
    not_whole begins none dirty level' fs spells =
        let found = spelled_entries block level' fs spells in
        let others = same_front es fs (drop passed.last.end block) (length (drop 32 block) - size fs) begun.all found.0 (sym begun.read ∙ found.1) in
        next others.0 others.1 others.2 others.3
      where
        next : (more : List Entry) → AllByRecursion IsEntry more → drop passed.last.end block ≡ entries_bytes more ++ replicate (length (drop 32 block) - size fs) 0 → fs ≡ es ++ more → ⊥
        next [] all rest split = dirty (zeros_long (drop passed.last.end block) (length (drop 32 block) - size fs) rest)
        next (p ∷ more) all rest split =
            let whole : fs ≡ (es ++ p ∷ []) ++ more = split ∙ sym (append_assoc es (p ∷ []) more) in
            let node : IsNode level ((es ++ p ∷ []) ++ more) = subst (IsNode level) whole (subst (λ (l : ℕ). IsNode l fs) (same_level block level level' fs begins spells) spells.node) in
            none p (entries_bytes more ++ replicate (length (drop 32 block) - size fs) 0) (all.0, rest ∙ append_assoc (entry_bytes p) (entries_bytes more) (replicate (length (drop 32 block) - size fs) 0))
            (value_of level es more p node)
            (behind_last es p (key_in block passed.last) passes.last_is (IsRising-split (es ++ p ∷ []) more node.rising).0)

  -- where no entry is the first, the block spells no node
  pub none_first : BeginsAtLevel block level → HasNoEntry block level 32 → (level' : ℕ) (fs : List Entry) → Spells block level' fs → ⊥
  none_first begins none level' [] spells = absurd (omega (arith, spells.node.some))
  none_first begins none level' (p ∷ more) spells =
      let found = spelled_entries block level' (p ∷ more) spells in
      let node : IsNode level (p ∷ more) = subst (λ (l : ℕ). IsNode l (p ∷ more)) (same_level block level level' (p ∷ more) begins spells) spells.node in
      let zeros = replicate {A = ℕ} (length (drop 32 block) - size (p ∷ more)) 0 in
      none p (entries_bytes more ++ zeros) (found.0.0, found.1 ∙ append_assoc (entry_bytes p) (entries_bytes more) zeros) (value_of level [] more p node)

  pub is_read : (end : ℕ) (es : List Entry) → IsBegun block level end es → drop end block ≡ replicate (length (drop end block)) 0 → IsRead block level es
  is_read end es begun zeros = record {
    read = ends_clean (drop 32 block) (drop end block) es begun.all begun.read zeros;
    values = begun.values;
    rising = begun.rising;
  }

-- ---- the entry at a place is another

module _ (block : List ℕ) (len : length block ≡ 4096) (level at : ℕ) (span : Span) (spans : SpansAt block at span) where
  same_there : (e : Entry) (rest : List ℕ) → BeginsWithEntry (drop at block) e rest → e ≡ entry_in block span
  same_there e rest begins = (same_entry e (entry_in block span) rest (drop span.end block) begins.0 spans.1.1.0 (sym begins.1 ∙ spans.1.1.1)).0

  pub other_value : 1 ≤ level → (span.end - span.value_at ≡ 8 → ⊥) → HasNoEntry block level at
  other_value above other = λ e rest begins value.
      let long : length (entry_in block span).1 ≡ span.end - span.value_at = length-slice block span.value_at span.end spans.0.value_then (omega (arith, spans.0.within)) in
      other (sym long ∙ ap (λ (d : Entry). length d.1) (sym (same_there e rest begins)) ∙ value above)

  pub other_order : (last : List ℕ) → (IsBelow last (key_in block span) → ⊥) → (e : Entry) (rest : List ℕ) → BeginsWithEntry (drop at block) e rest → HasValueOf level e → IsBelow last e.0 → ⊥
  other_order last not = λ e rest begins value below. not (subst (λ (d : Entry). IsBelow last d.0) (same_there e rest begins) below)

module _ (block : List ℕ) (level : ℕ) (entries : List Entry) (begins : BeginsAtLevel block level) (is : IsRead block level entries) where
  pub not_enough : (IsEnough level entries → ⊥) → (level' : ℕ) (es : List Entry) → Spells block level' es → ⊥
  not_enough not level' es spells =
      let node = only_read block level level' entries es begins is.read spells in
      not (node.some, λ above. (node.children above).0)

  pub is_spelled : length block ≡ 4096 → IsEnough level entries → Spells block level entries
  is_spelled len enough = node_read block level entries len begins is.read (record {
    level_fits = begins.0;
    some = enough.0;
    children = λ above. (enough.1 above, All-from_recursion (λ (e : Entry). length e.1 ≡ 8) entries (addresses above entries is.values));
    keys = All-from_recursion (λ (e : Entry). IsName e.0) entries (names entries is.read.0);
    values = All-from_recursion (λ (e : Entry). length e.1 ≤ 1024) entries (small entries is.read.0);
    rising = is.rising;
    fits = room_of (drop 32 block) entries (omega (arith, length-drop 32 block)) is.read;
  })
    where
      addresses : 1 ≤ level → (es : List Entry) → AllByRecursion (HasValueOf level) es → AllByRecursion (λ (e : Entry). length e.1 ≡ 8) es
      addresses above [] all = tt
      addresses above (e ∷ es) all = (all.0 above, addresses above es all.1)

      names : (es : List Entry) → AllByRecursion IsEntry es → AllByRecursion (λ (e : Entry). IsName e.0) es
      names [] all = tt
      names (e ∷ es) all = (all.0.0, names es all.1)

      small : (es : List Entry) → AllByRecursion IsEntry es → AllByRecursion (λ (e : Entry). length e.1 ≤ 1024) es
      small [] all = tt
      small (e ∷ es) all = (all.0.1, small es all.1)
