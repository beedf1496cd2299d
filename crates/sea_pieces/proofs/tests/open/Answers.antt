use Rattle.std.proofs.Common.{ℕ, ◌∙◌}
use Rattle.sea_transactions.specs.Calls.{Keeps}
use Rattle.sea_pieces.specs.declared.workspace.Workspace.{Workspace}
use Rattle.sea_pieces.specs.Works.{HasDone, state_of}
use Rattle.sea_pieces.proofs.tests.open.Goals as goal

keeps_then : (client : ℕ) (old mid new : Workspace) → Keeps state_of HasDone client old mid → Keeps state_of HasDone client mid new → Keeps state_of HasDone client old new
keeps_then client old mid new first later = record {
  objects = later.objects ∙ first.objects;
  last = later.last ∙ first.last;
  clients = later.clients ∙ first.clients;
  others = λ c other. record {
    transaction = (later.others c other).transaction ∙ (first.others c other).transaction;
    done = λ ops did. (later.others c other).done ops ((first.others c other).done ops did);
  };
}

pub returns-clause-keeps : goal.returns-clause-keeps
returns-clause-keeps c =
    let client = c.args.client in
    let old = c.args.space.now in
    keeps_then client old c.exec.new.self c.exec-2.new.self
    (keeps_then client old c.begin.new.self c.exec.new.self c.begin.ensures.keeps c.exec.ensures.keeps)
    c.exec-2.ensures.keeps
