use Rattle.record.proofs.Inverses.{decoding_inverts_hex}
use Rattle.record.proofs.laws.decoding_inverts_hex.Goals as goal

pub returns : goal.returns
returns c = decoding_inverts_hex
