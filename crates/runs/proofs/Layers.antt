-- What the layers below a stream say of a batch is what its turn says.
use Rattle.runs.specs.Layers.{LayersAgree}
use Rattle.runs.proofs.Found.{found, lacked}
use Rattle.runs.proofs.Sent.{sent}
use Rattle.runs.proofs.Amounts.{fields_are, buffers_are, messages_are, framed_are, work_is, short_is, each_message_inside}

pub layers_agree : LayersAgree
layers_agree = record {
  found = found;
  lacked = lacked;
  sent = sent;
  inside = each_message_inside;
  short = short_is;
  fields = fields_are;
  buffers = buffers_are;
  messages = messages_are;
  framed_messages = framed_are;
  work = work_is;
}
