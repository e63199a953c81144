use Rattle.cbm_channel.proofs.on_record.OnRecord.begin.Goals as goal

pub returns-in_err-waiting-clause-means : goal.returns-in_err-waiting-clause-means
returns-in_err-waiting-clause-means g c = λ d f b s rs h at shut is. absurd (c.in_err-waiting.ensures.means d f c.args.length b s rs h at is)

pub returns-clause-means : goal.returns-clause-means
returns-clause-means g c = λ d f b s rs h at shut is. record {
  file = f;
  in_slot = at;
  closed = shut;
  records = rs;
  blocks = b;
  sides = s;
  body = is;
  waits = c.in_ok-waiting.ensures.means d f c.args.length b s rs h at is;
}
