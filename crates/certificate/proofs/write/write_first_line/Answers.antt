use Rattle.certificate.proofs.write.write_first_line.Goals as goal

pub returns : goal.returns
returns g c = rw c.version_bytes.ensures at c.put_pieces.ensures
