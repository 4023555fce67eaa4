-- What a step found, in one line a kind, is what the state answers.
use Rattle.nio_base.specs.declared.numbers.CallerNo.{CallerNo}
use Rattle.nio_history.specs.Answers.{Answers}
use Rattle.nio_history.specs.State.{State}
use Rattle.nio_history.specs.WhatIsFound.{Finds, FindsWhatAnswers}
use Rattle.nio_history.specs.declared.act.Act.{Act}
use Rattle.nio_history.specs.declared.act.Act.TheVariants.{DrawBit, GiveTurn, Release, Unpin, PutFree}

answers_so : (st : State) (me : CallerNo) (act : Act) → Finds st me act → Answers st me act
answers_so st me (DrawBit n found) finds = cc
answers_so st me act finds = cc

finds_so : (st : State) (me : CallerNo) (act : Act) → Answers st me act → Finds st me act
finds_so st me (GiveTurn s) answers = tt
finds_so st me (Release c) answers = tt
finds_so st me (Unpin s i) answers = tt
finds_so st me (PutFree s i) answers = tt
finds_so st me act answers = cc answers

pub finds_what_answers : FindsWhatAnswers
finds_what_answers st me act = (answers_so st me act, finds_so st me act)
