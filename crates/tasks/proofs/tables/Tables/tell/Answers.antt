use Rattle.tasks.proofs.Runs.{told}
use Rattle.tasks.proofs.tables.Tables.tell.Goals as goal

pub returns-in-Begin : goal.returns-in-Begin
returns-in-Begin c =
    let a = c.in_ok-actor.ensures in
    told c.args.self.now c.begin.new.self c.args.event c.in_ok-actor.actor.number _ c.begin.result a.0 c.in-Begin.is a.1 c.begin.ensures

pub returns-in-OpenBlock : goal.returns-in-OpenBlock
returns-in-OpenBlock c =
    let a = c.in_ok-actor.ensures in
    told c.args.self.now c.open_block.new.self c.args.event c.in_ok-actor.actor.number _ c.open_block.result a.0 c.in-OpenBlock.is a.1 c.open_block.ensures

pub returns-in-LeaveBlock : goal.returns-in-LeaveBlock
returns-in-LeaveBlock c =
    let a = c.in_ok-actor.ensures in
    told c.args.self.now c.leave_block.new.self c.args.event c.in_ok-actor.actor.number _ c.leave_block.result a.0 c.in-LeaveBlock.is a.1 c.leave_block.ensures

pub returns-in-Call : goal.returns-in-Call
returns-in-Call c =
    let a = c.in_ok-actor.ensures in
    told c.args.self.now c.call.new.self c.args.event c.in_ok-actor.actor.number _ c.call.result a.0 c.in-Call.is a.1 c.call.ensures

pub returns-in-Accept : goal.returns-in-Accept
returns-in-Accept c =
    let a = c.in_ok-actor.ensures in
    told c.args.self.now c.accept.new.self c.args.event c.in_ok-actor.actor.number _ c.accept.result a.0 c.in-Accept.is a.1 c.accept.ensures

pub returns-in-EndRendezvous : goal.returns-in-EndRendezvous
returns-in-EndRendezvous c =
    let a = c.in_ok-actor.ensures in
    told c.args.self.now c.end_rendezvous.new.self c.args.event c.in_ok-actor.actor.number _ c.end_rendezvous.result a.0 c.in-EndRendezvous.is a.1 c.end_rendezvous.ensures

pub returns-in-Finish : goal.returns-in-Finish
returns-in-Finish c =
    let a = c.in_ok-actor.ensures in
    told c.args.self.now c.finish.new.self c.args.event c.in_ok-actor.actor.number _ c.finish.result a.0 c.in-Finish.is a.1 c.finish.ensures
