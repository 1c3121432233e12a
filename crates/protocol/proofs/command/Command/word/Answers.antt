use Rattle.protocol.specs.Command.{word_of, letters_of}
use Rattle.le.specs.Le.{num_of}
use Rattle.protocol.proofs.command.Command.word.Goals as goal

pub returns-in-Sync : goal.returns-in-Sync
unfolding word_of letters_of num_of
returns-in-Sync c = rw c.in-Sync.is

pub returns-in-Connect : goal.returns-in-Connect
unfolding word_of letters_of num_of
returns-in-Connect c = rw c.in-Connect.is

pub returns-in-Open : goal.returns-in-Open
unfolding word_of letters_of num_of
returns-in-Open c = rw c.in-Open.is

pub returns-in-Ready : goal.returns-in-Ready
unfolding word_of letters_of num_of
returns-in-Ready c = rw c.in-Ready.is

pub returns-in-Close : goal.returns-in-Close
unfolding word_of letters_of num_of
returns-in-Close c = rw c.in-Close.is

pub returns-in-Write : goal.returns-in-Write
unfolding word_of letters_of num_of
returns-in-Write c = rw c.in-Write.is

pub returns-in-Auth : goal.returns-in-Auth
unfolding word_of letters_of num_of
returns-in-Auth c = rw c.in-Auth.is

pub returns-in-StartTls : goal.returns-in-StartTls
unfolding word_of letters_of num_of
returns-in-StartTls c = rw c.in-StartTls.is
