-- A run worked out from the definitions, at alignment 8, with each description's own numbers as its header.
use Rattle.std.specs.Prelude.{◌≡◌, ℕ, false, List, [], ◌∷◌, ◌++◌, map, None, Some}
use Rattle.layout.specs.declared.fault.Refusal.TheVariants as fault
use Rattle.layout.specs.Faults.{fault_of}
use Rattle.layout.specs.Nodes.{nodes_of}
use Rattle.recording.specs.declared.alignment.Alignment.TheVariants.{Eight}
use Rattle.recording.specs.declared.options.DictionaryHandling.TheVariants.{Resend}
use Rattle.recording.specs.declared.options.IpcWriteOptions.{IpcWriteOptions}
use Rattle.frames.specs.Frames.{frame, end_mark}
use Rattle.frames.specs.Numbers.{number_bytes}
use Rattle.frames.specs.Sinks.{SinkMeaning}
use Rattle.layout.specs.Windows.{values_in}
use Rattle.runs.specs.Calls.{Call, Lent, Answer}
use Rattle.runs.specs.Readers.{new_reader, rebuilt_from, schema_of}
use Rattle.runs.specs.Runs.{Run, turns, state_after, answers}
use Rattle.cases.specs.FrameCases.{texts_message, texts_told}
use Rattle.cases.specs.Openings.{strings, bytes_of_strings}
use Rattle.cases.specs.WindowCases.{texts}

abbrev pub options : IpcWriteOptions
options = record { alignment = Eight; dictionary_handling = Resend; error_on_replacement = false }

-- memory for one field, three buffers, one message and twelve bytes of offsets, or for less
abbrev pub lent : ℕ → Lent
lent work = record { fields = 1; buffers = 3; messages = 1; work = work; metadata = 65536 }

-- the first id; a batch with too little work memory; the batch; one of other rows; the end; and an id after it
abbrev pub calls : List Call
calls = Call.next_id ∷ Call.batch 0 1 2 (lent 11) ∷ Call.batch 0 1 2 (lent 12) ∷ Call.batch 0 1 3 (lent 12) ∷ Call.finish ∷ Call.next_id ∷ []

-- it holds one byte, and takes as many as the frames have
abbrev pub sink : SinkMeaning
sink = record { held = 42 ∷ []; bytes = 152; pieces = 0; lengths = None }

abbrev pub texts_run : Run
texts_run =
    record {
      setting = record { options = options; form = λ o m. number_bytes m; cost = 0 };
      recorded = record { nodes = nodes_of strings; bytes = bytes_of_strings };
      calls = calls;
      sink = sink;
    }

pub record RunCases : Type 0 where
  pub answered : answers (turns texts_run)
      ≡ Answer.given 0
      ∷ Answer.refused (fault_of fault.Memory 3 0)
      ∷ Answer.accepted [] (texts_message ∷ []) (record { header = 120; body = 24 } ∷ [])
      ∷ Answer.refused (fault_of fault.Column 0 0)
      ∷ Answer.finished
      ∷ Answer.refused (fault_of fault.Ended 0 0)
      ∷ []
  -- what it held, the batch's frame, and the end mark
  pub held : (state_after texts_run).sink.held ≡ 42 ∷ (frame 8 (number_bytes texts_message) texts_told ++ end_mark)
  pub full : (state_after texts_run).sink.bytes ≡ 0
  pub messages : (state_after texts_run).messages ≡ 1
  -- read back by the Arrow rules: the two byte strings, of the one batch that is accepted
  pub rebuilt : rebuilt_from (state_after texts_run).sink.held (map (schema_of texts_run.recorded) calls) (answers (turns texts_run)) (new_reader 1)
      ≡ None ∷ None ∷ Some (record { rows = 2; columns = values_in texts ∷ [] }) ∷ None ∷ None ∷ None ∷ []
