use Rattle.nio_race.proofs.run.run_race.Goals as goal

pub returns-clause-race : goal.returns-clause-race
returns-clause-race g c =
    let its = c.read_and_run.ensures in
    record {
      done = its.done;
      bad_script = its.bad_script;
      write_fault = its.write_fault;
      memory = its.memory;
      unread = its.unread;
      ends = its.ends;
      kept = its.kept;
      of_race = its.of_race;
      of_bad = its.of_bad;
      of_long = its.of_long;
      complete = its.complete;
    }
