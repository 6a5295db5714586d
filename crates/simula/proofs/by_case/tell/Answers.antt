use Rattle.std.proofs.Common.{rules}
use Rattle.simulation_laws.specs.PublicLaws.{query_as}
use Rattle.simula.proofs.by_case.tell.Goals as goal

pub returns-in-First : goal.returns-in-First
returns-in-First c = query_as _ _ _ _ _ c.in-First.is c.first.ensures

pub returns-in-Last : goal.returns-in-Last
returns-in-Last c = query_as _ _ _ _ _ c.in-Last.is c.last.ensures

pub returns-in-Suc : goal.returns-in-Suc
returns-in-Suc c = query_as _ _ _ _ _ c.in-Suc.is (search rules)

pub returns-in-Pred : goal.returns-in-Pred
returns-in-Pred c = query_as _ _ _ _ _ c.in-Pred.is c.pred.ensures

pub returns-in-Empty : goal.returns-in-Empty
returns-in-Empty c = query_as _ _ _ _ _ c.in-Empty.is c.empty.ensures

pub returns-in-Cardinal : goal.returns-in-Cardinal
returns-in-Cardinal c = query_as _ _ _ _ _ c.in-Cardinal.is c.cardinal.ensures

pub returns-in-Current : goal.returns-in-Current
returns-in-Current c = query_as _ _ _ _ _ c.in-Current.is c.current.ensures

pub returns-in-Time : goal.returns-in-Time
returns-in-Time c = query_as _ _ _ _ _ c.in-Time.is c.time.ensures

pub returns-in-Idle : goal.returns-in-Idle
returns-in-Idle c = query_as _ _ _ _ _ c.in-Idle.is c.idle.ensures

pub returns-in-Terminated : goal.returns-in-Terminated
returns-in-Terminated c = query_as _ _ _ _ _ c.in-Terminated.is c.terminated.ensures

pub returns-in-Evtime : goal.returns-in-Evtime
returns-in-Evtime c = query_as _ _ _ _ _ c.in-Evtime.is c.evtime.ensures

pub returns-in-Nextev : goal.returns-in-Nextev
returns-in-Nextev c = query_as _ _ _ _ _ c.in-Nextev.is c.nextev.ensures
