use Rattle.std.proofs.Common.{[], ap, arith, subst, sym, ◌∙◌}
use Rattle.sea_object.specs.declared.reply.Reply.TheVariants as reply
use Rattle.sea_pieces.specs.Spelling.{spelling}
use Rattle.sea_pieces.specs.SpellingLaws.{spelling-nil}
use Rattle.sea_pieces.specs.Store.{IsStable}
use Rattle.sea_pieces.proofs.Works.{others_stay, put_apart, put_here}
use Rattle.sea_pieces.proofs.workspace.calls.WorkspaceTransactions.begin.Goals as goal

pub returns-clause-blank : goal.returns-clause-blank
returns-clause-blank c =
    let old = c.args.self.now in
    let none = put_here old.transactions.items c.args.client c.begin.result c.requires.0 (omega (arith, c.requires.1, old.each)) ∙ c.begin.ensures.nothing in
    record {
      is_open = c.begin.ensures.open;
      noted = c.begin.ensures.blank;
      reply = ap (λ d. reply.Done d.items) none;
      change = ap (λ d. spelling d.pieces) none ∙ spelling-nil;
    }

pub returns-clause-did : goal.returns-clause-did
returns-clause-did c =
    let old = c.args.self.now in
    subst (λ d. IsStable c.begin.new.self c.args.client [] d)
    (sym (put_here old.transactions.items c.args.client c.begin.result c.requires.0 (omega (arith, c.requires.1, old.each))))
    c.begin.ensures.stable

pub returns-clause-keeps : goal.returns-clause-keeps
returns-clause-keeps c =
    let old = c.args.self.now in
    others_stay c.args.client old _ c.begin.ensures.continues (put_apart old.transactions.items c.args.client c.begin.result c.requires.0)
