-- What holds of every run.
use Rattle.runs.specs.Laws.{Promise}
use Rattle.runs.proofs.Alike as likeness
use Rattle.runs.proofs.Held as sink
use Rattle.runs.proofs.Rebuilt.{reads_back}
use Rattle.runs.proofs.Stays.{refusal_stays}

pub promise : Promise
promise = record { held = sink.held; stays = refusal_stays; alike = likeness.alike; rebuilt = reads_back }
