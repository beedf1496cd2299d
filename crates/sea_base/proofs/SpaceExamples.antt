-- The words on spaces hold of something: behind every transaction there are one that placed a block, one that
-- amended one, one that read and one that was given addresses.
use Rattle.std.proofs.Common.{◌≡◌, ◌≢◌, inr, ℕ, ◌+◌, ◌||◌, ◌==◌, List, [], ◌∷◌, ◌++◌, Bool, true, Option, Some, if◌then◌else◌, refl, ◌∙◌, ap}
use Rattle.std.specs.Prelude.{is_some}
use Rattle.std.proofs.lemmas.Bool.{eq-eqb, ne_eqb, cond-true, cond-false}
use Rattle.sea_base.specs.declared.delta.Delta.{Delta}
use Rattle.sea_base.specs.Space.{Found, Seen, block_found, IsKnown, ReadsAtMost, Places, Amends, Gives}

pub placed : ℕ → Option (List ℕ) → Seen → Seen
placed at block seen = record seen {
  view = λ q. if q == at then block else seen.view q;
  changed = λ q. q == at || seen.changed q;
  whole = λ q. if q == at then true else seen.whole q;
  splices = λ q. if q == at then [] else seen.splices q;
}

pub places_some : (at : ℕ) (block : Option (List ℕ)) (seen : Seen) → Places at block seen (placed at block seen)
unfolding placed
places_some at block seen = record {
  writes = record {
    here = cond-true (at == at) block (seen.view at) (eq-eqb at at refl);
    others = λ q ne. cond-false (q == at) block (seen.view q) (ne_eqb q at ne);
    changed = λ q. refl;
    reads = λ q. refl;
    whole = λ q ne. cond-false (q == at) true (seen.whole q) (ne_eqb q at ne);
    splices = λ q ne. cond-false (q == at) [] (seen.splices q) (ne_eqb q at ne);
    next = refl;
  };
  whole = cond-true (at == at) true (seen.whole at) (eq-eqb at at refl);
  splices = cond-true (at == at) [] (seen.splices at) (eq-eqb at at refl);
}

pub amended : ℕ → Delta → List ℕ → Seen → Seen
amended at delta block seen = record seen {
  view = λ q. if q == at then Some block else seen.view q;
  changed = λ q. q == at || seen.changed q;
  splices = λ q. if q == at then seen.splices at ++ delta ∷ [] else seen.splices q;
}

pub amends_some : (at : ℕ) (delta : Delta) (block : List ℕ) (seen : Seen) → Amends at delta block seen (amended at delta block seen)
unfolding amended
amends_some at delta block seen = record {
  writes = record {
    here = cond-true (at == at) (Some block) (seen.view at) (eq-eqb at at refl);
    others = λ q ne. cond-false (q == at) (Some block) (seen.view q) (ne_eqb q at ne);
    changed = λ q. refl;
    reads = λ q. refl;
    whole = λ q ne. refl;
    splices = λ q ne. cond-false (q == at) (seen.splices at ++ delta ∷ []) (seen.splices q) (ne_eqb q at ne);
    next = refl;
  };
  whole = refl;
  splices = cond-true (at == at) (seen.splices at ++ delta ∷ []) (seen.splices at) (eq-eqb at at refl);
}

pub noted : ℕ → Found → Seen → Seen
noted at found seen = record seen {
  view = λ q. if q == at then block_found found else seen.view q;
  reads = λ q. if q == at then Some found else seen.reads q;
}

pub reads_some : (at : ℕ) (found : Found) (seen : Seen) → (IsKnown seen at → ⊥) → ReadsAtMost at seen (noted at found seen)
unfolding noted
reads_some at found seen unknown =
    let apart : (q : ℕ) → IsKnown seen q → q ≢ at = λ q k e. unknown (rw (← e) k) in
    let kept : (q : ℕ) → q ≢ at → (noted at found seen).reads q ≡ seen.reads q = λ q ne. cond-false (q == at) (Some found) (seen.reads q) (ne_eqb q at ne) in
    record {
      only = record {
        noted = λ q f e. kept q (apart q (inr (ap is_some e))) ∙ e;
        known = λ q k. cond-false (q == at) (block_found found) (seen.view q) (ne_eqb q at (apart q k));
        changed = λ q. refl;
        whole = λ q. refl;
        splices = λ q. refl;
        next = refl;
      };
      known = λ k. absurd (unknown k);
      others = kept;
    }

pub gives_some : (count : ℕ) (seen : Seen) → Gives count seen (record seen { next = seen.next + count })
gives_some count seen = record { view = λ q. refl; changed = λ q. refl; whole = λ q. refl; splices = λ q. refl; reads = λ q. refl; next = refl }
