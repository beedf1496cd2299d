use Rattle.sea_engine.proofs.Backs.{sends_all_back, sends_one_back}
use Rattle.sea_engine.proofs.Held.{acknowledges, appends, serves_plan}
use Rattle.sea_engine.proofs.law.turn_laws.Goals as goal

pub returns-clause-serves : goal.returns-clause-serves
returns-clause-serves c = serves_plan

pub returns-clause-acknowledged : goal.returns-clause-acknowledged
returns-clause-acknowledged c = acknowledges

pub returns-clause-goes_on : goal.returns-clause-goes_on
returns-clause-goes_on c = appends

pub returns-clause-sent_back : goal.returns-clause-sent_back
returns-clause-sent_back c = sends_one_back

pub returns-clause-all_sent_back : goal.returns-clause-all_sent_back
returns-clause-all_sent_back c = sends_all_back
