-- The laws as they are told.
use Rattle.std.proofs.Common.{arith}
use Rattle.link_laws.specs.IndexZero.{IndexZeroIsLossless, PicturesAreReceived, PicturesComeBack, SentStreamsComeBack}
use Rattle.link_laws.proofs.PicturesBack.{picture_back}
use Rattle.link_laws.proofs.ReceivedFrames.{frame_is_written}
use Rattle.link_laws.proofs.ReceivedPictures.{number_is, whole_received}
use Rattle.link_laws.proofs.StreamsBack.{stream_back}

pub pictures_come_back : PicturesComeBack
pictures_come_back settings indices planes is zeros = grind (arith, picture_back)

pub pictures_are_received : PicturesAreReceived
pictures_are_received settings window indices frames datagrams h picture number planes small some can heard at zeros own time =
    whole_received settings small indices frames can.sound can.few picture planes at zeros window some datagrams h heard number
    (number_is settings small indices frames can.sound can.few picture planes at zeros window some datagrams h heard number own) time

pub index_zero_is_lossless : IndexZeroIsLossless
index_zero_is_lossless settings window indices frames datagrams h f number frame small some can heard at time = frame_is_written settings small window some indices frames can datagrams h heard f number frame at time

pub sent_streams_come_back : SentStreamsComeBack
sent_streams_come_back settings window indices frames small some can zeros = stream_back settings small window some indices frames can zeros
