use native.Mathlib.Omega.{arith}
use Rattle.protocol.specs.Command.{command_of, among_of, commands, word_of, letters_of}
use Rattle.le.specs.Le.{num_of}
use Rattle.protocol.proofs.CommandLaws.{none_named}
use Rattle.protocol.proofs.command.CommandTryFromU32.try_from.Goals as goal

pub returns-in-1129208147 : goal.returns-in-1129208147
unfolding command_of among_of commands word_of letters_of num_of
returns-in-1129208147 c = rw c.in-1129208147.is

pub returns-in-1314410051 : goal.returns-in-1314410051
unfolding command_of among_of commands word_of letters_of num_of
returns-in-1314410051 c = rw c.in-1314410051.is

pub returns-in-1313165391 : goal.returns-in-1313165391
unfolding command_of among_of commands word_of letters_of num_of
returns-in-1313165391 c = rw c.in-1313165391.is

pub returns-in-1497451343 : goal.returns-in-1497451343
unfolding command_of among_of commands word_of letters_of num_of
returns-in-1497451343 c = rw c.in-1497451343.is

pub returns-in-1163086915 : goal.returns-in-1163086915
unfolding command_of among_of commands word_of letters_of num_of
returns-in-1163086915 c = rw c.in-1163086915.is

pub returns-in-1163154007 : goal.returns-in-1163154007
unfolding command_of among_of commands word_of letters_of num_of
returns-in-1163154007 c = rw c.in-1163154007.is

pub returns-in-1213486401 : goal.returns-in-1213486401
unfolding command_of among_of commands word_of letters_of num_of
returns-in-1213486401 c = rw c.in-1213486401.is

pub returns-in-1397511251 : goal.returns-in-1397511251
unfolding command_of among_of commands word_of letters_of num_of
returns-in-1397511251 c = rw c.in-1397511251.is

pub returns-in_default : goal.returns-in_default
returns-in_default c = none_named c.args.word (omega arith) (omega arith) (omega arith) (omega arith) (omega arith) (omega arith) (omega arith) (omega arith)
