use Rattle.connection.specs.Answer.{answer_number}
use Rattle.connection.proofs.Answer.number.Goals as goal

pub returns-in-Done : goal.returns-in-Done
unfolding answer_number
returns-in-Done c = rw c.in-Done.is

pub returns-in-Waiting : goal.returns-in-Waiting
unfolding answer_number
returns-in-Waiting c = rw c.in-Waiting.is

pub returns-in-Nothing : goal.returns-in-Nothing
unfolding answer_number
returns-in-Nothing c = rw c.in-Nothing.is

pub returns-in-Opened : goal.returns-in-Opened
unfolding answer_number
returns-in-Opened c = rw c.in-Opened.is

pub returns-in-Settled : goal.returns-in-Settled
unfolding answer_number
returns-in-Settled c = rw c.in-Settled.is

pub returns-in-Read : goal.returns-in-Read
unfolding answer_number
returns-in-Read c = rw c.in-Read.is

pub returns-in-Written : goal.returns-in-Written
unfolding answer_number
returns-in-Written c = rw c.in-Written.is

pub returns-in-Front : goal.returns-in-Front
unfolding answer_number
returns-in-Front c = rw c.in-Front.is

pub returns-in-Numbers : goal.returns-in-Numbers
unfolding answer_number
returns-in-Numbers c = rw (c.in-Numbers.is, c.open_number.ensures)

pub returns-in-Refused : goal.returns-in-Refused
unfolding answer_number
returns-in-Refused c = rw (c.in-Refused.is, c.number.ensures)
