use Rattle.std.proofs.Common.{Some, List, ℕ, sym, ap, ◌∙◌}
use Rattle.std.specs.Prelude.{option_map}
use Rattle.std.specs.FinMap as map
use Rattle.sea_object.proofs.Lookups.{get_entry}
use Rattle.sea_pieces.specs.declared.committed.Version.{Version}
use Rattle.sea_pieces.proofs.committed.Committed.content.Goals as goal

pub returns-in_ok-copy-in-Some : goal.returns-in_ok-copy-in-Some
returns-in_ok-copy-in-Some c =
    ap (λ (b : List ℕ). Some b) c.in_ok-copy-in-Some.ensures
    ∙ ap (option_map (λ (v : Version). v.content)) (c.in-Some.ensures.value ∙ sym (get_entry c.self.inside.versions.entries c.args.name.now) ∙ ap (λ m. map.get m c.args.name.now) c.self.view_is)

pub returns-in-None : goal.returns-in-None
returns-in-None c =
    ap (option_map (λ (v : Version). v.content)) (c.in-None.ensures.value ∙ sym (get_entry c.self.inside.versions.entries c.args.name.now) ∙ ap (λ m. map.get m c.args.name.now) c.self.view_is)
